pub mod Orders
pub mod Rising

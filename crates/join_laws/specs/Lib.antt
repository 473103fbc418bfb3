pub mod Keys
pub mod Renumber
pub mod Uses
pub mod Joined

pub mod Table
pub mod Passes

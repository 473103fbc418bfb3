pub mod Writes
pub mod Zeros

pub mod Ranges
pub mod Few
pub mod Fits
pub mod Stood
pub mod Steps

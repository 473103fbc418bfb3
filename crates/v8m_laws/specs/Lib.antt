pub mod Path
pub mod Compares
pub mod Rows
pub mod Lists

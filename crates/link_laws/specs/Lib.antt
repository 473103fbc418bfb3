pub mod Resolve
pub mod Sites
pub mod Rom

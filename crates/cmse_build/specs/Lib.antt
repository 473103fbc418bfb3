pub mod Constant
pub mod Image
pub mod Reading

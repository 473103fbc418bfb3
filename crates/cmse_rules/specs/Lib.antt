pub mod Attributes
pub mod Names
pub mod Pointers
pub mod Entry

pub mod Parts
pub mod Blanks
pub mod Strings
pub mod Initials
pub mod Contents

pub mod Headings
pub mod Locals
pub mod Globals

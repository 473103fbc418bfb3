pub mod Structures
pub mod Layout
pub mod File
pub mod Reading
pub mod Linked
pub mod Placed
pub mod CanLink

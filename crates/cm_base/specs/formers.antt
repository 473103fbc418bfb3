-- How a type may hold itself through a list, or through a shared node.
pub mod list
pub mod shared

pub mod Limits
pub mod Nodes
pub mod Depth
pub mod Placed
pub mod Slots
pub mod Globals
pub mod Numbers
pub mod Conditions

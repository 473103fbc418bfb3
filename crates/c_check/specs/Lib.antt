pub mod Operands
pub mod Specified
pub mod Formed
pub mod Typed

pub mod Operands
pub mod Keeps

pub mod OperandLaws
pub mod FormedLaws
pub mod Walk
pub mod Layers

pub mod Operate
pub mod Constant

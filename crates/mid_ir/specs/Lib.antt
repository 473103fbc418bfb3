pub mod Limits
pub mod Uses
pub mod Cost
pub mod Numbers
pub mod Conditions
pub mod Activation
pub mod Run
pub mod Whole

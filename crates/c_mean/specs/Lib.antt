pub mod Parts
pub mod Homes
pub mod Values
pub mod Exprs
pub mod Stmts
pub mod Calls
pub mod Run

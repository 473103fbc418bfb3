pub mod Within
pub mod Arms
pub mod Simple
pub mod Stmts

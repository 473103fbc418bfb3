pub mod Frames
pub mod Pieces
pub mod Exprs
pub mod Stmts
pub mod Programs

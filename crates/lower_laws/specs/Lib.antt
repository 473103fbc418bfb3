pub mod Likeness
pub mod Follows
pub mod Limits

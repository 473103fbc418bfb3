pub mod Counts
pub mod Places
pub mod Assigned
pub mod Kept

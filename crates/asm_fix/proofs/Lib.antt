pub mod Labels
pub mod Ranges
pub mod Stands
pub mod Joins

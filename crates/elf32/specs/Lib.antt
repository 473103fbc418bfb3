pub mod Constants
pub mod Fields
pub mod Structures
pub mod Tables

pub mod Text
pub mod Turns
pub mod Script
pub mod Transcript

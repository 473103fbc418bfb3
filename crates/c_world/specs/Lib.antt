pub mod Plans
pub mod Seen
pub mod Setups
pub mod Here
pub mod Changes

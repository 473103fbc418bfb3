pub mod Classes
pub mod Spot
pub mod Spelling
pub mod Likely
pub mod Tokens
pub mod Reading
pub mod Answer

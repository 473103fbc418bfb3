pub mod Library
pub mod Reading

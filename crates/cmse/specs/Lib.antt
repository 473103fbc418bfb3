pub mod Status
pub mod Words
pub mod Files
pub mod Build
pub mod Run
pub mod Command
pub mod Steps

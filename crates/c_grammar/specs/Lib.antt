pub mod Tokens
pub mod Grammar
pub mod Units
pub mod Nesting
pub mod Reading

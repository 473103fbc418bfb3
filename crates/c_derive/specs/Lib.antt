pub mod Specifiers
pub mod Derivations

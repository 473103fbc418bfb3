pub mod Paths
pub mod Flags
pub mod Operators
pub mod Numbers
pub mod Accesses
pub mod Lists
pub mod Stack

pub mod Fixed
pub mod HasAsm
pub mod Places

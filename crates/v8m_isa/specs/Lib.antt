pub mod Bytes
pub mod Choice
pub mod Decoding
pub mod Form
pub mod Rows
pub mod Table

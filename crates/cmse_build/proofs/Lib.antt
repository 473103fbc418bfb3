pub mod Texts
pub mod FileParts
pub mod Ready
pub mod ReadBack

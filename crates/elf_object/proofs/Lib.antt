pub mod LayoutLaws
pub mod Parts
pub mod Entries
pub mod ReadBack

pub mod Files
pub mod NameLaws
pub mod Tables
pub mod ReadBack

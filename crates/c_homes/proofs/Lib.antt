pub mod MarkLaws
pub mod BlockLaws

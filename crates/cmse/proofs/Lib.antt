pub mod BuildLaws
pub mod NumberLaws
pub mod RunLaws

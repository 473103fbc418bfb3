pub mod RangeLaws
pub mod ClearLaws
pub mod SetupLaws
pub mod PlaceLaws

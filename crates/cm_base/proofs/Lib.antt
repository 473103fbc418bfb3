pub mod OutsideLaws
pub mod StreamLaws

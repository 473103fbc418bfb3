pub mod CauseLaws
pub mod JoinLaws
pub mod NameLaws
pub mod SeeLaws
pub mod SetLaws

pub mod InitLaws
pub mod DeclLaws
pub mod GlobalLaws
pub mod FileLaws
pub mod BodyLaws
pub mod FunctionLaws

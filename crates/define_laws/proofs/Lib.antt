pub mod CalledLaws
pub mod FunctionLaws
pub mod PartLaws

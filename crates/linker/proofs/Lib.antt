pub mod NamesLaws
pub mod PassLaws
pub mod MadeLaws
pub mod LoopLaws

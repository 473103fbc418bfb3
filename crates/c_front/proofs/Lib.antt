pub mod AnswerLaws
pub mod OneLaws
pub mod SaidLaws

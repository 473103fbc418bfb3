pub mod PieceLaws
pub mod KindLaws
pub mod RowLaws
pub mod TableLaws
pub mod Encodings
pub mod DecodingLaws
pub mod ByteLaws

pub mod TextLaws
pub mod NumberLaws
pub mod TurnLaws
pub mod ScriptLaws
pub mod TranscriptLaws

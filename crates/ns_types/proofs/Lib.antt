mod Values
mod WorkedRows
pub mod TurnLaws
pub mod Ranges
pub mod BoundLaws
pub mod MarkLaws
pub mod ShowLaws
pub mod Crossings
pub mod EveryLaws
pub mod StopLaws
pub mod AlikeLaws
pub mod CounterLaws

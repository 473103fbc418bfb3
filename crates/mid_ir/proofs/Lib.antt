pub mod Layers
pub mod RunLaws
pub mod CostLaws
pub mod RangeLaws
mod WorkedRows
mod WorkedProgram

pub mod Codes
pub mod StmtCodes
mod WorkedRows

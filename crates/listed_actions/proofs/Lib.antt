pub mod Untouched
pub mod ColumnTurn
pub mod Among

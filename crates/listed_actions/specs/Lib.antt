pub mod Listed
pub mod InTurn

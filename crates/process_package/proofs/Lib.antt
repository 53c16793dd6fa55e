pub mod SessionRefusal
pub mod CheckLaws
pub mod ProcessLaws

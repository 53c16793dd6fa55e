pub mod Row
pub mod Rows
pub mod Encoding
pub mod Answers

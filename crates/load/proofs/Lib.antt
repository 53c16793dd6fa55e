pub mod Answers
pub mod Views
pub mod Told

pub mod Answers
pub mod ManagerState

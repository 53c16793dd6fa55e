pub mod Run
pub mod Answers
pub mod Replies
pub mod WholeList
pub mod DemandOfCalls
pub mod Loaded

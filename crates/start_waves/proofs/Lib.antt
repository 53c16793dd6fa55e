-- Claims is the page to read first.
pub mod order
pub mod Claims
pub mod WaitLaws
pub mod JoinLaws
pub mod NumbersOf
pub mod Adding
pub mod Listing
pub mod Reports
pub mod Examples
pub mod ReportExamples

pub mod View
pub mod Exact
pub mod Outcome
pub mod Permissions

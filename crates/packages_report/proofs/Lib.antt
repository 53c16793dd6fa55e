pub mod Recorded
pub mod Reported

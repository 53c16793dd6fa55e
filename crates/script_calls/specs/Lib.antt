pub mod Kept
pub mod Line

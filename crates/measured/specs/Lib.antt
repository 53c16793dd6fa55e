pub mod Turns
pub mod Twelve

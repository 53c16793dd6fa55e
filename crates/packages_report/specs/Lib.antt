pub mod Records
pub mod Packages

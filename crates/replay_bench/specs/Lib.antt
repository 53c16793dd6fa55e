pub mod Bench
pub mod Input

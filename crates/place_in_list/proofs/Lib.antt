pub mod Placed
pub mod Searching

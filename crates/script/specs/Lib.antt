pub mod Limits
pub mod Gathered
pub mod Words
pub mod Place
pub mod Line
pub mod Open

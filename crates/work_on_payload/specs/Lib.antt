pub mod Payload
pub mod Ending
pub mod Work

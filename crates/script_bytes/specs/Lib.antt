pub mod Hex
pub mod Block
pub mod Open

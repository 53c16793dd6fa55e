pub mod Then
pub mod Number
pub mod Version
pub mod Word
pub mod Digits
pub mod Put
pub mod Meaning
pub mod Open

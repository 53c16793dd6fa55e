pub mod Package
pub mod Refused
pub mod Answer
pub mod Open

pub mod Heading
pub mod Found
pub mod Open

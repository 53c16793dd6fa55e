pub mod EmptyLine
pub mod PackageLaws
pub mod Within
pub mod Payload
pub mod Examples

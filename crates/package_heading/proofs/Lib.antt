pub mod Within
pub mod Examples

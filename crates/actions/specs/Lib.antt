pub mod Action
pub mod Refusals
pub mod Staged
pub mod View
pub mod Struct
pub mod Place
pub mod Exact

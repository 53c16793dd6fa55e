pub mod Quoted
pub mod Refusals
pub mod Counted

pub mod Tests
pub mod Ladder
pub mod Counted
pub mod Parts
pub mod Refusals
pub mod RefusalNumbers
pub mod Tables
pub mod Examples

-- Compaction is what a loop over areas goes by.
pub mod PositionLaws
pub mod MoveLaws
pub mod Parts
pub mod Compaction
pub mod Examples

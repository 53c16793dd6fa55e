-- Examples of document 01 that hold by computation.
pub mod Open
pub mod Transcript
pub mod Samples
pub mod BenchExamples
pub mod Loads
pub mod Refusals
pub mod Boundaries
pub mod Soundness
pub mod Permitted
pub mod Answers
pub mod Sessions
pub mod NearMisses
pub mod Reports

pub mod OldCalls
pub mod Exact
pub mod MixedLists

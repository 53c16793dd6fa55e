-- ExactlyWhen and Claims are the pages to read first.
pub mod Decided
pub mod ExactlyWhen
pub mod MixedLists
pub mod Claims
pub mod Examples
pub mod OldWays

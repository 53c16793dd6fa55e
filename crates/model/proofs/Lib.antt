-- Claims is the page to read first.
pub mod soundness
pub mod store
pub mod transitions
pub mod journal
pub mod examples
pub mod reading
pub mod Claims

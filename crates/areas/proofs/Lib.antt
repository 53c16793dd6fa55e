pub mod Along
pub mod FoundPackage
pub mod ChangedPackage
pub mod FirstPlaces
pub mod Kept
pub mod ProcessingPlace
pub mod InProcessing
pub mod ReadingLaws

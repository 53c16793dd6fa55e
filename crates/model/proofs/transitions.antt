-- The accepted transitions as one type, refused calls, and what a Report in Activating is answered.
pub mod Passing
pub mod MovesElsewhere
pub mod AcceptingPackages
pub mod Accepting
pub mod Refused
pub mod NoOtherRefusal
pub mod ReportInActivating

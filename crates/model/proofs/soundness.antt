-- The state stays sound: what soundness says, part by part, and that Load and every accepted call keep it.
pub mod SoundFacts
pub mod Packages
pub mod FinePackage
pub mod Counts
pub mod OfProcessing
pub mod ProcessingPackage
pub mod Listed
pub mod KeptValues
pub mod Accepted
pub mod SoundTransfers
pub mod SoundProcessing
pub mod SoundSession
pub mod KeptSound
pub mod LoadSound
pub mod RunningWithin
pub mod Marks

pub mod StartOrder
pub mod WavesReport
pub mod WaveClaims
pub mod Waits
pub mod Listed
pub mod OnSound

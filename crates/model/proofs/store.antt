-- The store: its length, what its areas hold, and who writes it.
pub mod StoreLength
pub mod LengthKept
pub mod Contents
pub mod ContentsBlock
pub mod AreaLaws
pub mod AreaStart
pub mod PackageAtIndex
pub mod BlocksCommute
pub mod StoreStays

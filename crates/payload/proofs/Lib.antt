pub mod Parts
pub mod PlaceLaws
pub mod PayloadLaws

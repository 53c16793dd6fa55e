pub mod LentLaws
pub mod LineLaws
pub mod PlayLaws
pub mod NothingLoaded
pub mod RefusedLoad

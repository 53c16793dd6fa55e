pub mod CallLaws
pub mod GivesBack
pub mod ShapeKept

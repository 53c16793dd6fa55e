pub mod DeleteLaws

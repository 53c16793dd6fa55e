pub mod Texts
pub mod PutParts

pub mod AnswerLaws
pub mod RowLaws
pub mod RowKinds
pub mod RowListLaws
pub mod Encoding
pub mod Examples

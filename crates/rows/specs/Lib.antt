pub mod Field
pub mod Line
pub mod Columns
pub mod ListColumns
pub mod Names
pub mod Open

pub mod LineParts
pub mod ListedLines

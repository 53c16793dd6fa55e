pub mod Cells
pub mod Mark
pub mod Read
pub mod Write
pub mod FourNames
pub mod Open

pub mod Version
pub mod Cluster
pub mod Table
pub mod View
pub mod Struct
pub mod Place
pub mod Columns
pub mod Exact

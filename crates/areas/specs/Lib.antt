pub mod Place
pub mod Changed
pub mod Inside
pub mod FirstPlaces
pub mod Deletion
pub mod Named

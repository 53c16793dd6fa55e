pub mod Laws
pub mod RemainderTable
pub mod Examples

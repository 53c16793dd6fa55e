pub mod Sum
pub mod RemainderTable

pub mod Cancel

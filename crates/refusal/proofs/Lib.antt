pub mod PassedUp

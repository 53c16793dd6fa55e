pub mod KeptProgress

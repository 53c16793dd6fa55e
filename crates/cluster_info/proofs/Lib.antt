pub mod RunningText
pub mod WrittenLoadsBack

pub mod PayloadLaws
pub mod EndingLaws
pub mod WorkLaws
pub mod ViewWorked
pub mod WorkedRoom

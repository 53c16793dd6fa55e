pub mod NumberedWays
pub mod TurnLaws
pub mod TwelveLaws
pub mod TwelveRow

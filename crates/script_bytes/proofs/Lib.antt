pub mod HexLaws
pub mod BlockLaws
pub mod RoundTrip
pub mod Examples

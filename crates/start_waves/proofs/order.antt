-- The start waves of a table: laws of the definitions, and what A.3 claims of them.
pub mod RisingLaws
pub mod SelectLaws
pub mod WaveLaws
pub mod PartLists
pub mod Waiting
pub mod ListedOnce
pub mod InOrder
pub mod Settled
pub mod FirstWave
pub mod LeastNumbering

-- The invariant that ties state and store to the journal, the induction over a list of calls, and what follows.
pub mod ProcessingId
pub mod InvariantTables
pub mod InvariantKept
pub mod Opened
pub mod Lists
pub mod Returns
pub mod NeverUnsound
pub mod SessionTable
pub mod MarkedStay
pub mod Demand3
pub mod EventRuns
pub mod Layers

-- What the manager's state holds, and its store. Numbers and bytes are any ℕ, so what is claimed of states and stores covers more than
-- those of 32 and 8 bits.
use Rattle.std.specs.Prelude.{ℕ, Bool, List, map, eqb}
use Rattle.std.proofs.Math.Option.{Option}
use Rattle.checksum.specs.declared.Sums.{Sums}
use Rattle.clusters.specs.Table.{Table}
use Rattle.actions.specs.Action.{Action}

-- "Package states: Transferring 0, Transferred 1, Processing 2, Processed 3."
pub data PackageState : Type 0 where
  transferring transferred being_processed processed : PackageState

abbrev pub package_state_number : PackageState → ℕ
package_state_number transferring = 0
package_state_number transferred = 1
package_state_number being_processed = 2
package_state_number processed = 3

-- a package: its transfer id, declared size, bytes received, accepted blocks and state
pub record Package : Type 0 where
  pub id : ℕ
  pub size : ℕ
  pub received : ℕ
  pub blocks : ℕ
  pub state : PackageState

-- "Rollback: Verifying or Activated to RollingBack."
pub data RollbackOrigin : Type 0 where
  verifying_rolls_back activated_rolls_back : RollbackOrigin

-- "Revert: Ready to CleaningUp."; "Finish: Activated or RolledBack to CleaningUp."
pub data CleanUpOrigin : Type 0 where
  ready_cleans_up activated_cleans_up rolled_back_cleans_up : CleanUpOrigin

-- the manager's state. "Where RollingBack or CleaningUp came from, always one of the states given above for it, is kept while
-- in them and only then"
pub data Phase : Type 0 where
  idle ready processing activating verifying activated : Phase
  rolling_back : RollbackOrigin → Phase
  rolled_back : Phase
  cleaning_up : CleanUpOrigin → Phase

-- "States: Idle 0, Ready 1, Processing 2, Activating 3, Verifying 4, Activated 5, RollingBack 6, RolledBack 7, CleaningUp 8."
abbrev pub phase_number : Phase → ℕ
phase_number idle = 0
phase_number ready = 1
phase_number processing = 2
phase_number activating = 3
phase_number verifying = 4
phase_number activated = 5
phase_number (rolling_back origin) = 6
phase_number rolled_back = 7
phase_number (cleaning_up origin) = 8

abbrev pub is_idle : Phase → Bool
is_idle phase = eqb (phase_number phase) 0

abbrev pub is_processing : Phase → Bool
is_processing phase = eqb (phase_number phase) 2

-- the packages in id order, and the id that the next transfer is given; 4,294,967,296 when all are spent
pub record Transfers : Type 0 where
  pub packages : List Package
  pub next : ℕ

-- an action of the session's list, with the transfer id of its package
pub record Entry : Type 0 where
  pub id : ℕ
  pub action : Action

-- the table when the session began, and "the session's list" in processing order
pub record Session : Type 0 where
  pub beginning : Table
  pub listed : List Entry

-- "The state keeps the action, the payload's start within its area, count and sum, with the running sums and the bytes done",
-- and the cancel note
pub record Work : Type 0 where
  pub action : Action
  pub start : ℕ
  pub count : ℕ
  pub sum : ℕ
  pub running_sums : Sums
  pub done : ℕ
  pub cancel_noted : Bool

-- the kept values are none where they are cleared
pub record State : Type 0 where
  pub phase : Phase
  pub transfers : Transfers
  pub session : Session
  pub work : Option Work

abbrev pub state : Phase → Transfers → Session → Option Work → State
state phase transfers session work = record { phase = phase; transfers = transfers; session = session; work = work }

-- the lent store's bytes
abbrev pub Store : Type 0
Store = List ℕ

-- the actions of the session's list
abbrev pub actions : List Entry → List Action
actions entries = map (λ e. e.action) entries

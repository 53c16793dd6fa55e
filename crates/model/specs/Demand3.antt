-- The whole statement of demand 3, and of document 01's words about who writes the store and what it holds: `Demand3` at the end.
use Rattle.std.specs.Prelude.{ℕ, ◌+◌, ◌-◌, ◌≡◌, Bool, true, false, not, ◌&&◌, List, [], ◌∷◌, ◌++◌, ◌↔◌, ◌⊎◌, eqb, length, drop, replicate}
use Rattle.std.proofs.Math.Option.{some}
use Rattle.clusters.specs.Table.{Table}
use Rattle.actions.specs.Action.{apply_all}
use Rattle.model.specs.State.{Package, Phase, phase_number, is_idle, State, Store, actions}
use Rattle.model.specs.Calls.{Call, transfer_start, transfer_data, transfer_exit, delete_transfer, process, work, cancel, revert, activate, rollback, finish, report, refused}
use Rattle.model.specs.Areas.{declared, free, find, area_of}
use Rattle.model.specs.Tables.{running}
use Rattle.model.specs.Sound.{sound}
use Rattle.model.specs.Step.{step}
use Rattle.model.specs.Run.{run, accepted_only, calls_of}
use Rattle.model.specs.Journal.{to_revert, to_finish, Journal, journal}

-- "the session ended by Revert, by Finish after a Rollback that was completed, or with no package processed": the session that a
-- call ends, by the journal before that call
pub data Undone (j : Journal) : Call → Type 0 where
  by_revert : {good : Bool} → j.direction ≡ to_revert → Undone j (report good)
  by_rollback : {good : Bool} → j.direction ≡ to_finish → j.rollback_completed ≡ true → Undone j (report good)
  nothing_processed : {call : Call} → j.A ≡ [] → Undone j call

-- "the running table and the table when that session began are equal exactly when" the session was undone. "Otherwise the running
-- table is the beginning table with the processed packages' actions applied in processing order."
pub record TableAtReturn (j : Journal) (call : Call) (running : Table) : Type 0 where
  pub equal_exactly_when : (running ≡ j.B) ↔ Undone j call
  pub otherwise : (Undone j call → ⊥) → running ≡ apply_all j.B j.A

-- "Only Load, an accepted block and deleting write the store": TransferData, DeleteTransfer, and the Report that ends CleaningUp
abbrev pub may_write_store : Phase → Call → Bool
may_write_store phase (transfer_start size) = false
may_write_store phase (transfer_data id counter block) = true
may_write_store phase (transfer_exit id) = false
may_write_store phase (delete_transfer id) = true
may_write_store phase (process id) = false
may_write_store phase (work n) = false
may_write_store phase (cancel id) = false
may_write_store phase revert = false
may_write_store phase activate = false
may_write_store phase rollback = false
may_write_store phase finish = false
may_write_store phase (report good) = good && eqb (phase_number phase) 8

-- no call of the list ends in Idle: "that session" goes on
unfoldable pub session_goes_on : State → Store → List Call → Bool
session_goes_on s store [] = true
session_goes_on s store (call ∷ calls) =
    let o = step s store call in
    not (is_idle o.state.phase) && session_goes_on o.state o.store calls

-- the session that a list of calls ends in: the list is `before` and `session`, `before` ends in Idle and no call of `session` does
pub record LastSession (s : State) (store : Store) (calls : List Call) : Type 0 where
  pub before : List Call
  pub session : List Call
  pub joined : before ++ session ≡ calls
  pub began : is_idle (run s store before).state.phase ≡ true
  pub goes_on : session_goes_on (run s store before).state (run s store before).store session ≡ true

-- ---- the statement

-- what holds of a state and store with the journal of the calls that led to them, and of each call made then
pub record AgreesWith (j : Journal) (s : State) (store : Store) : Type 0 where
  -- "After every call it is the one that document 01's book gives." "R is the running table after every call; B, up to the return
  -- that ends a session, is that session's beginning table. Idle is reached at these returns only."
  pub running_is_r : running s ≡ j.R
  pub beginning_is_b : s.session.beginning ≡ j.B
  pub idle_agrees : is_idle s.phase ≡ j.is_idle
  -- A has the actions of the packages that were really processed, in processing order
  pub listed_is_a : actions s.session.listed ≡ j.A
  -- "at each return to Idle"
  pub at_return : (call : Call) → is_idle s.phase ≡ false → is_idle (step s store call).state.phase ≡ true
      → TableAtReturn j call (running (step s store call).state)
  -- "After every other call it is the beginning table or that one with the actions processed by then, and no third."
  pub no_third : (running s ≡ j.B) ⊎ (running s ≡ apply_all j.B j.A)
  -- the state is sound after every call, so none is refused by 1
  pub stays_sound : sound s store ≡ true
  pub not_refused_by1 : (call : Call) → (step s store call).reply ≡ refused 1 → ⊥
  -- "Only Load, an accepted block and deleting write the store."
  pub store_stays : (call : Call) → may_write_store s.phase call ≡ false → (step s store call).store ≡ store
  -- each area holds the accepted blocks of its package, joined, and 0 behind them; behind the last area the store is 0
  pub area_holds : (id : ℕ) (p : Package) → find id s.transfers.packages ≡ some p
      → area_of id s.transfers.packages store ≡ j.blocks id ++ replicate (p.size - p.received) 0
  pub received_is_joined : (id : ℕ) (p : Package) → find id s.transfers.packages ≡ some p → length (j.blocks id) ≡ p.received
  pub end_holds : drop (declared s.transfers.packages) store ≡ replicate (free s.transfers.packages store) 0
  -- "Declared sizes plus free bytes equal the store's length."
  pub declared_plus_free : declared s.transfers.packages + free s.transfers.packages store ≡ length store

-- what holds of a list of calls, made from a state and store with a journal
pub record Demand3 (j : Journal) (s : State) (store : Store) (calls : List Call) : Type 0 where
  -- "After every call": after the first calls of the list, however many, and so after all of them
  pub after_each : (before rest : List Call) → before ++ rest ≡ calls
      → AgreesWith (journal j (run s store before).made) (run s store before).state (run s store before).store
  -- "the table when that session began": where `before` ends in Idle and no call of `session` does, B is the running table after
  -- `before`
  pub session_began : (before session rest : List Call) → (before ++ session) ++ rest ≡ calls
      → is_idle (run s store before).state.phase ≡ true
      → session_goes_on (run s store before).state (run s store before).store session ≡ true
      → (journal j (run s store (before ++ session)).made).B ≡ running (run s store before).state
  -- "The list without its refused calls, from the same start, gives every other call the same answer and ends with equal state
  -- and store."
  pub without_refused : run s store (calls_of (accepted_only (run s store calls).made))
      ≡ record { made = accepted_only (run s store calls).made; state = (run s store calls).state; store = (run s store calls).store }

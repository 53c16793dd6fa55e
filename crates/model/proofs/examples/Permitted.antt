-- The numbers of document 01's states, package states and calls, each as one list, and who may call what, by calls, as document 01 says
-- it: for each call the manager states that allow it. So each of the 108 permissions is said twice. What the arguments of a call are,
-- and where RollingBack and CleaningUp came from, plays no part. Assumes nothing.
use Prim.Native.Nat.{ℕ}
use mathlib.Core.Path.{◌≡◌, refl}
use mathlib.Core.Bool.{Bool, true, false, cond}
use mathlib.Core.List.{List, [], ◌∷◌, ◌++◌, map}
use lib.ListN.{replicate}
use Rattle.model.specs.State.{transferring, transferred, being_processed, processed, package_state_number, RollbackOrigin, CleanUpOrigin, Phase, idle, ready, processing, activating, verifying, activated, rolling_back, rolled_back, cleaning_up, phase_number}
use Rattle.model.specs.Calls.{Call, call_number, transfer_start, transfer_data, transfer_exit, delete_transfer, process, work, cancel, revert, activate, rollback, finish, report}
use Rattle.model.specs.Permissions.{allowed}
use Rattle.model.specs.Demand3.{may_write_store}
use Rattle.model.proofs.examples.Open.{computing}

-- those of a list that a test picks
abbrev picked : {A : Type 0} → (A → Bool) → List A → List A
picked test [] = []
picked test (x ∷ xs) = cond (test x) (x ∷ picked test xs) (picked test xs)

-- a call and the states that allow it
pub record Permission : Type 0 where
  pub call : Call
  pub states : List Phase

infix 70 ◌allowed_in◌
abbrev ◌allowed_in◌ : Call → List Phase → Permission
call allowed_in states = record { call = call; states = states }

module _ (rollback_origin : RollbackOrigin) (clean_up_origin : CleanUpOrigin) (n counter : ℕ) (block : List ℕ) where
  abbrev every_state : List Phase
  every_state =
      idle ∷ ready ∷ processing ∷ activating ∷ verifying ∷ activated ∷ rolling_back rollback_origin ∷ rolled_back ∷ cleaning_up clean_up_origin ∷ []

  abbrev permitted : Bool → List Permission
  permitted good =
      -- "transfer calls always"
      transfer_start n allowed_in every_state
      ∷ transfer_data n counter block allowed_in every_state
      ∷ transfer_exit n allowed_in every_state
      ∷ delete_transfer n allowed_in every_state
      -- "Process(id): Idle or Ready to Processing."
      ∷ process n allowed_in (idle ∷ ready ∷ [])
      -- "Work and Cancel are allowed in Processing"
      ∷ work n allowed_in (processing ∷ [])
      ∷ cancel n allowed_in (processing ∷ [])
      -- "Revert: Ready to CleaningUp."
      ∷ revert allowed_in (ready ∷ [])
      -- "Activate: Ready to Activating."
      ∷ activate allowed_in (ready ∷ [])
      -- "Rollback: Verifying or Activated to RollingBack."
      ∷ rollback allowed_in (verifying ∷ activated ∷ [])
      -- "Finish: Activated or RolledBack to CleaningUp."
      ∷ finish allowed_in (activated ∷ rolled_back ∷ [])
      -- "Report in Activating, Verifying, RollingBack and CleaningUp"
      ∷ report good allowed_in (activating ∷ verifying ∷ rolling_back rollback_origin ∷ cleaning_up clean_up_origin ∷ [])
      ∷ []

  -- the twelve calls, with a good or a bad Report
  abbrev twelve : Bool → List Call
  twelve good = map (λ p. p.call) (permitted good)

  -- those of them that may write the store, by the manager's state
  abbrev writers : Bool → List (List Call)
  writers good = map (λ phase. picked (may_write_store phase) (twelve good)) every_state

  abbrev blocks_and_deletes : List Call
  blocks_and_deletes = transfer_data n counter block ∷ delete_transfer n ∷ []

  pub record Permitted : Type 0 where
    -- "Package states: Transferring 0, Transferred 1, Processing 2, Processed 3."
    pub package_states : map package_state_number (transferring ∷ transferred ∷ being_processed ∷ processed ∷ []) ≡ 0 ∷ 1 ∷ 2 ∷ 3 ∷ []
    -- "States: Idle 0, Ready 1, Processing 2, Activating 3, Verifying 4, Activated 5, RollingBack 6, RolledBack 7, CleaningUp 8."
    pub states : map phase_number every_state ≡ 0 ∷ 1 ∷ 2 ∷ 3 ∷ 4 ∷ 5 ∷ 6 ∷ 7 ∷ 8 ∷ []
    -- the order of "The twelve changing calls"
    pub numbers : (good : Bool) → map call_number (twelve good) ≡ 0 ∷ 1 ∷ 2 ∷ 3 ∷ 4 ∷ 5 ∷ 6 ∷ 7 ∷ 8 ∷ 9 ∷ 10 ∷ 11 ∷ []
    -- the states that allow each call
    pub permissions : (good : Bool)
        → map (λ p. p.call allowed_in picked (λ phase. allowed phase p.call) every_state) (permitted good) ≡ permitted good
    -- "Only Load, an accepted block and deleting write the store": of the Reports the good one that ends CleaningUp deletes
    pub writing : writers true ≡ replicate 8 blocks_and_deletes ++ (blocks_and_deletes ++ report true ∷ []) ∷ []
    pub writing_no_more : writers false ≡ replicate 9 blocks_and_deletes

  pub as_permitted : Permitted
  unfolding computing
  as_permitted =
      record {
        package_states = refl;
        states = refl;
        numbers = λ good. refl;
        permissions = λ good. refl;
        writing = refl;
        writing_no_more = refl;
      }

-- Revert, Activate, Rollback and Finish on the code's structs: where each moves the manager's state.
use Rattle.std.specs.Prelude.{ℕ, ◌≡◌, false, cond, [], eqb}
use Rattle.model.specs.State.{phase_number, Store}
use Rattle.model.specs.Calls.{Call, call_number, revert, activate, rollback, finish}
use Rattle.model.specs.Step.{own_refusals}
use Rattle.state.specs.declared.phase.RollbackOrigin.{RollbackOrigin}
use Rattle.state.specs.declared.phase.RollbackOrigin.TheVariants as origins
use Rattle.state.specs.declared.phase.CleanUpOrigin.{CleanUpOrigin}
use Rattle.state.specs.declared.phase.CleanUpOrigin.TheVariants as clean_up
use Rattle.state.specs.declared.phase.Phase.{Phase}
use Rattle.state.specs.declared.phase.Phase.TheVariants.{Activating, RollingBack, CleaningUp}
use Rattle.state.specs.declared.state.State.{State}
use Rattle.state.specs.declared.answer.Answer.TheVariants.{Done}
use Rattle.state.specs.declared.answer.Answer.{Answer}
use Rattle.state.specs.declared.answer.Answered.{Answered}
use Rattle.state.specs.View.{view_phase, view_state}
use Rattle.state.specs.Exact.{in_phase}
use Rattle.state.specs.Outcome.{Outcome, outcome, answered, called, called_on_sound}

-- the manager's state moved and all else as it was; "where no name or id is given the answer is Done"
abbrev pub moved : Phase → State → Store → Outcome
moved phase s store = outcome (answered Done (in_phase phase s)) store

-- "Revert: Ready to CleaningUp."
abbrev pub reverting : State → Store → Outcome
reverting s store = moved (CleaningUp clean_up.Ready) s store

-- Revert: refused as the model refuses it, or accepted
abbrev pub revert_called : State → Store → Outcome
revert_called s store = called s store revert (reverting s store)

-- the same after refusal 1, of a sound state
abbrev pub revert_called_on_sound : State → Store → Outcome
revert_called_on_sound s store = called_on_sound s store revert (reverting s store)

-- "Activate: Ready to Activating."
abbrev pub activating : State → Store → Outcome
activating s store = moved Activating s store

-- Activate: refused as the model refuses it, or accepted
abbrev pub activate_called : State → Store → Outcome
activate_called s store = called s store activate (activating s store)

-- the same after refusal 1, of a sound state
abbrev pub activate_called_on_sound : State → Store → Outcome
activate_called_on_sound s store = called_on_sound s store activate (activating s store)

-- "Where RollingBack .. came from .. is kept": Verifying, which is 4, or Activated
unfoldable pub rollback_origin : Phase → RollbackOrigin
rollback_origin phase = cond (eqb (phase_number (view_phase phase)) 4) origins.Verifying origins.Activated

-- "Rollback: Verifying or Activated to RollingBack."
abbrev pub rolling_back : State → Store → Outcome
rolling_back s store = moved (RollingBack (rollback_origin s.phase)) s store

-- Rollback: refused as the model refuses it, or accepted
abbrev pub rollback_called : State → Store → Outcome
rollback_called s store = called s store rollback (rolling_back s store)

-- the same after refusal 1, of a sound state
abbrev pub rollback_called_on_sound : State → Store → Outcome
rollback_called_on_sound s store = called_on_sound s store rollback (rolling_back s store)

-- "Where .. CleaningUp came from .. is kept": after Finish Activated, which is 5, or RolledBack
unfoldable pub finish_origin : Phase → CleanUpOrigin
finish_origin phase = cond (eqb (phase_number (view_phase phase)) 5) clean_up.Activated clean_up.RolledBack

-- "Finish: Activated or RolledBack to CleaningUp."
abbrev pub finishing : State → Store → Outcome
finishing s store = moved (CleaningUp (finish_origin s.phase)) s store

-- Finish: refused as the model refuses it, or accepted
abbrev pub finish_called : State → Store → Outcome
finish_called s store = called s store finish (finishing s store)

-- the same after refusal 1, of a sound state
abbrev pub finish_called_on_sound : State → Store → Outcome
finish_called_on_sound s store = called_on_sound s store finish (finishing s store)

-- a call with a number: "2. ServiceBusy" does not name it, and it has no refusal from 4 on
pub record MovesAlone (s : State) (store : Store) (call : Call) (number : ℕ) : Type 0 where
  pub numbered : call_number call ≡ number
  pub free : eqb (call_number call) 4 ≡ false
  pub own : own_refusals (view_state s) store call ≡ []

-- each of these calls with that number is refused, or moves the manager's state to the next one
abbrev pub MovesTo : Phase → State → ℕ → Answered Answer → Type 0
MovesTo next s number r =
    (call : Call) (store : Store) → MovesAlone s store call number → outcome r store ≡ called_on_sound s store call (moved next s store)

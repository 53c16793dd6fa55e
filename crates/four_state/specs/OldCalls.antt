-- "The old four-state calls": "the interface of source document 002" as "a layer" above the twelve calls.
use Rattle.std.specs.Prelude.{ℕ, ◌≡◌, Bool, true, not, cond, ◌&&◌, ◌||◌, List, [], ◌∷◌, eqb, get_or}
use Rattle.std.proofs.Math.Option.{Option, none, some}
use Rattle.base.specs.Refusals.{Refusal, refuse◌when◌, first_refusal}
use Rattle.clusters.specs.Table.{needs_met}
use Rattle.model.specs.State.{phase_number, is_idle, Phase, State, Store}
use Rattle.model.specs.Calls.{Call, cancel, revert, activate, rollback}
use Rattle.model.specs.Areas.{processing_id}
use Rattle.model.specs.Tables.{staged}
use Rattle.model.specs.Permissions.{allowed}
use Rattle.model.specs.Sound.{sound}
use Rattle.model.specs.Step.{step}
use Rattle.model.specs.Layers.{EventOutcome, event_outcome}
use Rattle.four_state.specs.declared.call.OldCall.{OldCall}
use Rattle.four_state.specs.declared.call.OldCall.TheVariants.{Activate, Cancel, Revert, Rollback}

-- "the twelve's call of its name"
abbrev pub twelve_of : OldCall → Call
twelve_of Activate = activate
twelve_of (Cancel id) = cancel id
twelve_of Revert = revert
twelve_of Rollback = rollback

-- ---- Status

-- "Idle and Ready show as 0 and 1. Processing, RollingBack and CleaningUp show as 2. All others show as 3.": a number for each of the
-- manager's states, by its own number
abbrev pub statuses : List ℕ
statuses = 0 ∷ 1 ∷ 2 ∷ 3 ∷ 3 ∷ 3 ∷ 2 ∷ 3 ∷ 2 ∷ []

-- what one of them shows as
abbrev pub shown_as : Phase → ℕ
shown_as phase = get_or statuses (phase_number phase) 0

-- "Before all else an unsound state gives .. status 255."
unfoldable pub status_of : State → Store → ℕ
status_of s store = cond (sound s store) (shown_as s.phase) 255

-- ---- what the four answer

-- "Before all else an unsound state gives 1 from Cancel, 2 from the other three"
abbrev pub unsound_answer : OldCall → ℕ
unsound_answer Activate = 2
unsound_answer (Cancel id) = 1
unsound_answer Revert = 2
unsound_answer Rollback = 2

-- "in Ready"
abbrev pub is_ready : Phase → Bool
is_ready phase = eqb (phase_number phase) 1

module _ (s : State) where
  -- "all needs met in the staged table"
  abbrev pub staged_needs_met : Bool
  staged_needs_met = needs_met (staged s.session)

  -- the answers of a sound state other than 0, each a condition and its number, in the order in which they are checked
  unfoldable pub further_answers : OldCall → List Refusal
  -- "1 in Idle, 4 in Ready with unmet needs, 2 for any other refusal"
  further_answers Activate =
      (refuse 1 when is_idle s.phase)
      ∷ (refuse 4 when (is_ready s.phase && not staged_needs_met))
      ∷ (refuse 2 when not (allowed s.phase activate))
      ∷ []
  -- "2 for a wrong manager state, 1 for any other refusal": "Cancel names another than the one processing"
  further_answers (Cancel id) =
      (refuse 2 when not (allowed s.phase (cancel id)))
      ∷ (refuse 1 when not (eqb id (processing_id s.transfers.packages)))
      ∷ []
  -- "1 in Idle, else 2"
  further_answers Revert =
      (refuse 1 when is_idle s.phase)
      ∷ (refuse 2 when not (allowed s.phase revert))
      ∷ []
  -- "1 in Idle or Ready, else 2"
  further_answers Rollback =
      (refuse 1 when (is_idle s.phase || is_ready s.phase))
      ∷ (refuse 2 when not (allowed s.phase rollback))
      ∷ []

  -- "Before all else an unsound state"
  unfoldable pub old_answers : Store → OldCall → List Refusal
  old_answers store call = (refuse unsound_answer call when not (sound s store)) ∷ further_answers call

-- ---- what the four do

-- begun, and answered 0, unless an answer other than 0 applies: "A call answered by anything but 0 changes nothing."; begun, it gives the
-- state and store of the twelve's call. S is the type of the state, the model's or the code's
abbrev pub begun_unless : {S : Type 0} → S → Store → Option ℕ → S → Store → EventOutcome S ℕ
begun_unless s store (some number) s' store' = event_outcome number s store
begun_unless s store none s' store' = event_outcome 0 s' store'

-- one old call: it "does what that call does"
unfoldable pub old_step : State → Store → OldCall → EventOutcome State ℕ
old_step s store call =
    let o = step s store (twelve_of call) in
    begun_unless s store (first_refusal (old_answers s store call)) o.state o.store

-- "Each is accepted exactly when the twelve's call of its name is, Activate only with all needs met in the staged table": what is demanded
-- beside that call's being accepted
abbrev pub NeedsMetFor : State → OldCall → Type 0
NeedsMetFor s Activate = staged_needs_met s ≡ true
NeedsMetFor s (Cancel id) = Unit {0}
NeedsMetFor s Revert = Unit {0}
NeedsMetFor s Rollback = Unit {0}

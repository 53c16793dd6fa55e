-- The old calls on the code's structs.
use Rattle.std.specs.Prelude.{ℕ, ◌≡◌, true, cond}
use Rattle.std.proofs.Math.Option.{Option}
use Rattle.base.specs.Refusals.{first_refusal}
use Rattle.model.specs.State as model
use Rattle.model.specs.State.{Store}
use Rattle.model.specs.Sound.{sound}
use Rattle.model.specs.Layers.{EventOutcome, event_outcome, view_outcome_by}
use Rattle.state.specs.declared.state.State.{State}
use Rattle.state.specs.declared.answer.Answer.{Answer}
use Rattle.state.specs.declared.answer.Answered.{Answered}
use Rattle.state.specs.View.{view_state}
use Rattle.state.specs.Outcome.{is_refusal, answered}
use Rattle.manager.specs.Accepts.{exact_step}
use Rattle.four_state.specs.declared.call.OldCall.{OldCall}
use Rattle.four_state.specs.OldCalls.{twelve_of, further_answers, old_answers, begun_unless}

-- what an old call gives: its answer, and the state and store then
abbrev pub old_outcome : Answered ℕ → Store → EventOutcome State ℕ
old_outcome r store = event_outcome r.answer r.state store

-- the same as the model has it
abbrev pub view_old_answered : Answered ℕ → Store → EventOutcome model.State ℕ
view_old_answered r store = view_outcome_by view_state (old_outcome r store)

-- by what the twelve's call gave: 0 where it was accepted, and a number "for any other refusal"
abbrev pub answered_by : Answered Answer → ℕ → Answered ℕ
answered_by made other = answered (cond (is_refusal made.answer) other 0) made.state

-- "A call answered by anything but 0 changes nothing.": the very State that was handed in comes back; for 0 it is that of the twelve's call
unfoldable pub exact_begun_unless : State → Store → OldCall → Option ℕ → EventOutcome State ℕ
exact_begun_unless s store call answer =
    let o = exact_step s store (twelve_of call) in
    begun_unless s store answer o.answered.state o.store

-- one old call, from any state and bytes
abbrev pub exact_old_step : State → Store → OldCall → EventOutcome State ℕ
exact_old_step s store call = exact_begun_unless s store call (first_refusal (old_answers (view_state s) store call))

-- the same of a sound state, behind "Before all else an unsound state"
abbrev pub answered_on_sound : State → Store → OldCall → EventOutcome State ℕ
answered_on_sound s store call = exact_begun_unless s store call (first_refusal (further_answers (view_state s) call))

-- an old call answered 0 gives a state that is sound with the store then
unfoldable pub SoundIfZero : EventOutcome State ℕ → Type 0
SoundIfZero o = o.answer ≡ 0 → sound (view_state o.state) o.store ≡ true

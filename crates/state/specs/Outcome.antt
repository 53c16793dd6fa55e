-- What a call gives on the code's structs: its answer, the state and the store then.
use Rattle.std.specs.Prelude.{ℕ, ◌≡◌, Bool, true, false}
use Rattle.std.proofs.Math.Option.{Option, none, some}
use Rattle.base.specs.Refusals.{first_refusal}
use Rattle.model.specs.State.{Store}
use Rattle.model.specs.Calls as calls
use Rattle.model.specs.Sound.{sound}
use Rattle.model.specs.Step as step
use Rattle.state.specs.declared.state.State.{State}
use Rattle.state.specs.declared.answer.Answer.{Answer}
use Rattle.state.specs.declared.answer.Answer.TheVariants.{Id, Done, Working, Processed, Cancelled, Inconsistent, PreActivationFailed, MissingDependencies, VerificationFailed, NotAbleToRollback, NotAbleToRevert, CleaningFailed, Refused}
use Rattle.state.specs.declared.answer.Answered.{Answered}
use Rattle.state.specs.View.{view_state}

-- document 01's name, id or number for each case of the enum
abbrev pub reply_of : Answer → calls.Reply
reply_of (Id id) = calls.accepted (calls.given_id id)
reply_of Done = calls.accepted calls.done
reply_of Working = calls.accepted calls.working
reply_of Processed = calls.accepted calls.processed
reply_of Cancelled = calls.accepted calls.cancelled
reply_of Inconsistent = calls.accepted calls.inconsistent
reply_of PreActivationFailed = calls.accepted calls.pre_activation_failed
reply_of MissingDependencies = calls.accepted calls.missing_dependencies
reply_of VerificationFailed = calls.accepted calls.verification_failed
reply_of NotAbleToRollback = calls.accepted calls.not_able_to_rollback
reply_of NotAbleToRevert = calls.accepted calls.not_able_to_revert
reply_of CleaningFailed = calls.accepted calls.cleaning_failed
reply_of (Refused number) = calls.refused number

-- the case that is a refusal
abbrev pub is_refusal : Answer → Bool
is_refusal (Id id) = false
is_refusal Done = false
is_refusal Working = false
is_refusal Processed = false
is_refusal Cancelled = false
is_refusal Inconsistent = false
is_refusal PreActivationFailed = false
is_refusal MissingDependencies = false
is_refusal VerificationFailed = false
is_refusal NotAbleToRollback = false
is_refusal NotAbleToRevert = false
is_refusal CleaningFailed = false
is_refusal (Refused number) = true

-- a call's answer with the state, and the store
pub record Outcome : Type 0 where
  pub answered : Answered Answer
  pub store : Store

abbrev pub outcome : Answered Answer → Store → Outcome
outcome r store = record { answered = r; store = store }

-- an answer of any kind with the state
abbrev pub answered : {A : Type 0} → A → State → Answered A
answered answer s = record { answer = answer; state = s }

-- "a refusal is the number alone"; "the state comes back equal"
abbrev pub refused_by : State → ℕ → Answered Answer
refused_by s number = answered (Refused number) s

-- an outcome as the model has it
abbrev pub view_outcome : Outcome → step.Outcome
view_outcome o =
    record { reply = reply_of o.answered.answer; state = view_state o.answered.state; store = o.store }

-- what a call answered, with the store then, as the model has it
abbrev pub view_answered : Answered Answer → Store → step.Outcome
view_answered r store = view_outcome (outcome r store)

-- an accepted call gives a state that is sound with the store then
unfoldable pub SoundIfAccepted : Outcome → Type 0
SoundIfAccepted o =
    (answer : calls.Answer) → reply_of o.answered.answer ≡ calls.accepted answer
    → sound (view_state o.answered.state) o.store ≡ true

-- a refused call gives state and store back as they were
unfoldable pub settled : State → Store → Option ℕ → Outcome → Outcome
settled s store (some number) o = outcome (refused_by s number) store
settled s store none o = o

-- a call whose refusals are those of the model, with what it gives where none applies
unfoldable pub called : State → Store → calls.Call → Outcome → Outcome
called s store call accepts = settled s store (first_refusal (step.refusals (view_state s) store call)) accepts

-- the same after refusal 1, of a sound state
unfoldable pub called_on_sound : State → Store → calls.Call → Outcome → Outcome
called_on_sound s store call accepts = settled s store (first_refusal (step.further_refusals (view_state s) store call)) accepts

-- "A dealer tool's calls may stand in any list with the twelve".
use Rattle.std.specs.Prelude.{ℕ, Bool, true, false, not, cond, List, eqb}
use Rattle.std.proofs.Math.Option.{Option, none, some}
use Rattle.model.specs.State.{State, Store}
use Rattle.model.specs.Calls.{Call, done, Reply, refused, accepted}
use Rattle.model.specs.Step.{step}
use Rattle.model.specs.Run.{Made}
use Rattle.model.specs.Journal.{Journal}
use Rattle.model.specs.Layers.{EventOutcome, event_outcome, MadeEvent, made_event, EventRun, run_events, EventDemand}
use Rattle.four_state.specs.declared.call.OldCall.{OldCall}
use Rattle.four_state.specs.OldCalls.{twelve_of, old_step}

-- a call of the twelve, or one of the old four
pub data MixedCall : Type 0 where
  of_twelve : Call → MixedCall
  of_four : OldCall → MixedCall

-- what a call of either kind is answered
pub data MixedReply : Type 0 where
  by_twelve : Reply → MixedReply
  by_four : ℕ → MixedReply

-- one call of either kind
unfoldable pub mixed_step : State → Store → MixedCall → EventOutcome State MixedReply
mixed_step s store (of_twelve call) =
    let o = step s store call in
    event_outcome (by_twelve o.reply) o.state o.store
mixed_step s store (of_four call) =
    let o = old_step s store call in
    event_outcome (by_four o.answer) o.state o.store

-- "any other answer as a refusal"
abbrev pub is_mixed_refusal : MixedReply → Bool
is_mixed_refusal (by_twelve (refused number)) = true
is_mixed_refusal (by_twelve (accepted answer)) = false
is_mixed_refusal (by_four number) = not (eqb number 0)

-- "one of these four answered 0 counting there as the twelve's call of its name": accepted with Done, as each of these four is. No call is
-- answered in the other kind
unfoldable pub counts_as : MixedCall → MixedReply → Option Made
counts_as (of_twelve call) (by_twelve reply) = some (record { call = call; reply = reply })
counts_as (of_twelve call) (by_four number) = none
counts_as (of_four call) (by_twelve reply) = none
counts_as (of_four call) (by_four number) = cond (eqb number 0) (some (record { call = twelve_of call; reply = accepted done })) none

-- a call of either kind and what it was answered
abbrev pub MixedMade : Type 0
MixedMade = MadeEvent MixedCall MixedReply

-- a call of the twelve and its reply in a mixed list
abbrev pub as_mixed : Made → MixedMade
as_mixed m = made_event (of_twelve m.call) (by_twelve m.reply)

-- a list of both kinds: "each handed the state and store that the one before left"
abbrev pub mixed_run : State → Store → List MixedCall → EventRun State MixedCall MixedReply
mixed_run s store calls = run_events mixed_step s store calls

-- "and demand 3, the table property, holds for that list": of a list from a state and store with a journal
abbrev pub MixedDemand : Journal → State → Store → List MixedCall → Type 0
MixedDemand j s store calls = EventDemand (λ (state : State). state) mixed_step counts_as is_mixed_refusal j s store calls

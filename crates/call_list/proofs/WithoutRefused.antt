-- Refused calls on the code's structs, of both kinds, give back what they were handed: the state as a struct, and the store. So the list
-- without them has the same answers and end (`without-refused-events` of `model`). Assumes nothing.
use Prim.Native.Nat.{ℕ}
use mathlib.Core.Path.{◌≡◌, refl}
use mathlib.Core.Bool.{true}
use mathlib.Core.List.{List}
use mathlib.Core.Option.{Option, none, some}
use Rattle.base.specs.Refusals.{first_refusal}
use Rattle.base.proofs.Tests.{clash}
use Rattle.model.specs.State.{Store}
use Rattle.model.specs.Calls.{Call, Reply, refused, accepted}
use Rattle.model.specs.Step.{refusals}
use Rattle.model.specs.Layers.{RefusedGivesBack, SameWithoutRefusedEvents}
use Rattle.model.proofs.journal.EventRuns.{without-refused-events}
use Rattle.state.specs.declared.state.State.{State}
use Rattle.state.specs.View.{view_state}
use Rattle.state.specs.Outcome.{reply_of, settled, called}
use Rattle.manager.specs.Accepts.{accepts, exact_step}
use Rattle.manager.proofs.GivesBack.{accepts-back}
use Rattle.four_state.specs.declared.call.OldCall.{OldCall}
use Rattle.four_state.specs.OldCalls.{old_answers}
use Rattle.four_state.specs.Exact.{exact_begun_unless}
use Rattle.four_state.specs.MixedLists.{MixedCall, of_twelve, of_four, by_twelve, by_four, is_mixed_refusal}
use Rattle.call_list.specs.Run.{exact_mixed_step}

-- ---- one call

module _ (s : State) (store : Store) where
  -- a call of the twelve, whether one of the model's refusals applies or none does
  settled_back : (call : Call) (number : ℕ) (refusal : Option ℕ)
      → (let o = settled s store refusal (accepts s store call) in
      reply_of o.answered.answer ≡ refused number → (o.answered.state ≡ s) × (o.store ≡ store))
  unfolding settled
  settled_back call number none e = accepts-back s store call number e
  settled_back call number (some n) e = (refl, refl)

  twelve-back : (call : Call) (number : ℕ) → reply_of (exact_step s store call).answered.answer ≡ refused number
      → ((exact_step s store call).answered.state ≡ s) × ((exact_step s store call).store ≡ store)
  unfolding called
  twelve-back call number e = settled_back call number (first_refusal (refusals (view_state s) store call)) e

  -- of the old four: "A call answered by anything but 0 changes nothing."
  old-back : (call : OldCall) (answer : Option ℕ) → is_mixed_refusal (by_four (exact_begun_unless s store call answer).answer) ≡ true
      → ((exact_begun_unless s store call answer).state ≡ s) × ((exact_begun_unless s store call answer).store ≡ store)
  unfolding exact_begun_unless
  old-back call none e = clash e refl
  old-back call (some number) e = (refl, refl)

refused-back : (s : State) (store : Store) (call : Call) (reply : Reply) → reply_of (exact_step s store call).answered.answer ≡ reply
    → is_mixed_refusal (by_twelve reply) ≡ true → ((exact_step s store call).answered.state ≡ s) × ((exact_step s store call).store ≡ store)
refused-back s store call (refused number) e h = twelve-back s store call number e
refused-back s store call (accepted answer) e h = clash h refl

pub mixed-gives-back : RefusedGivesBack exact_mixed_step is_mixed_refusal
unfolding exact_mixed_step
mixed-gives-back s store (of_twelve call) e = refused-back s store call _ refl e
mixed-gives-back s store (of_four call) e = old-back s store call (first_refusal (old_answers (view_state s) store call)) e

-- ---- a list of calls

-- "The list without its refused calls, from the same start, gives every other call the same answer and ends with equal state and store.":
-- of the calls in code, the state as a struct
pub same-without-refused : (s : State) (store : Store) (calls : List MixedCall) → SameWithoutRefusedEvents exact_mixed_step is_mixed_refusal s store calls
same-without-refused = without-refused-events exact_mixed_step is_mixed_refusal mixed-gives-back

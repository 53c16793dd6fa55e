-- Every call, of the twelve or of the old four, leaves a sound state sound and gives an unsound one back. So the check of soundness before
-- a list of calls says what a check before each of them would. Assumes nothing.
use Prim.Native.Nat.{ℕ}
use mathlib.Core.Path.{◌≡◌, refl, sym, ap, ◌∙◌}
use mathlib.Core.Bool.{Bool, true, false}
use mathlib.Core.Option.{Option, none, some}
use Rattle.model.specs.State as model
use Rattle.model.specs.State.{Store}
use Rattle.model.specs.Calls.{Call}
use Rattle.model.specs.Sound.{sound}
use Rattle.model.specs.Step.{Outcome, act, unless_refused, step}
use Rattle.model.specs.Run.{Made}
use Rattle.model.specs.Layers.{EventOutcome, GivesAsCounted}
use Rattle.model.proofs.soundness.Accepted.{unsound-refused}
use Rattle.model.proofs.soundness.KeptSound.{step-sound}
use Rattle.state.specs.declared.state.State.{State}
use Rattle.state.specs.View.{view_state}
use Rattle.four_state.specs.MixedLists.{MixedCall, MixedReply, mixed_step, counts_as}
use Rattle.four_state.proofs.MixedLists.{mixed-layer}
use Rattle.call_rows.specs.declared.answer_words.AnswerWords.{AnswerWords}
use Rattle.state.specs.declared.answer.Answered.{Answered}
use Rattle.call_list.specs.WholeList.{CallMade}

module _ (s : model.State) (store : Store) where
  abbrev SoundAsBefore : model.State → Store → Type 0
  SoundAsBefore s' store' = sound s' store' ≡ sound s store

  unsound-back : (call : Call) → sound s store ≡ false → SoundAsBefore (step s store call).state (step s store call).store
  unfolding step
  unsound-back call e =
      ap (λ (refusal : Option ℕ). let o = unless_refused s store refusal (act s store call) in sound o.state o.store)
      (unsound-refused s store call e)

  of-twelve : (call : Call) → SoundAsBefore (step s store call).state (step s store call).store
  of-twelve call = go (sound s store) refl
    where
      go : (b : Bool) → sound s store ≡ b → SoundAsBefore (step s store call).state (step s store call).store
      go true e = step-sound s store call e ∙ sym e
      go false e = unsound-back call e

  -- a call of either kind counts as one of the twelve, or gives back what it was handed
  of_either : (o : EventOutcome model.State MixedReply) (counts : Option Made) → GivesAsCounted (λ (x : model.State). x) s store o counts
      → SoundAsBefore o.state o.store
  of_either o none back = rw (back.0, back.1)
  of_either o (some m) same = ap (λ (x : Outcome). sound x.state x.store) (sym same) ∙ of-twelve m.call

-- a call that was made
pub made-soundness : (s : State) (store : Store) (call : MixedCall) (given : Answered AnswerWords) (store' : Store) → CallMade s store call given store'
    → sound (view_state given.state) store' ≡ sound (view_state s) store
made-soundness s store call given store' made =
    let o = mixed_step (view_state s) store call in
    ap (λ (x : EventOutcome model.State MixedReply). sound x.state x.store) made.meaning
    ∙ of_either (view_state s) store o (counts_as call o.answer) (mixed-layer (view_state s) store call)

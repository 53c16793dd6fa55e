-- Lists without old calls mean and answer what they did: a list of the twelve alone leaves the state and store of `model`'s run of the calls
-- with the words of their replies, and demand 3 of it as a mixed list is demand 3 of the calls. By induction over the calls. Assumes nothing.
use Prim.Native.Nat.{ℕ}
use mathlib.Core.Path.{◌≡◌, refl, ap, subst, ◌∙◌}
use mathlib.Core.List.{List, [], ◌∷◌, map}
use Rattle.model.specs.State.{State, Store}
use Rattle.model.specs.Calls.{Call}
use Rattle.model.specs.Step.{step}
use Rattle.model.specs.Run.{Made, run, calls_of}
use Rattle.model.specs.Journal.{Journal}
use Rattle.model.specs.Demand3.{Demand3}
use Rattle.model.specs.Layers.{EventRun, counted, counted_in}
use Rattle.four_state.specs.MixedLists.{MixedCall, of_twelve, MixedReply, by_twelve, mixed_step, counts_as, as_mixed, mixed_run, MixedDemand}
use Rattle.four_state.proofs.MixedLists.{twelve-alone, twelve-count}
use Rattle.call_rows.specs.Answers.{answer_words}
use Rattle.call_list.specs.Answers.{words_of}

-- the words of replies, two for each
unfoldable pub reply_words : List Made → List ℕ
reply_words [] = []
reply_words (m ∷ made) = (answer_words (by_twelve m.reply)).kind ∷ (answer_words (by_twelve m.reply)).value ∷ reply_words made

words-of-replies : (made : List Made) → words_of (map as_mixed made) ≡ reply_words made
unfolding words_of reply_words
words-of-replies [] = refl
words-of-replies (m ∷ made) =
    ap (λ (l : List ℕ). (answer_words (by_twelve m.reply)).kind ∷ (answer_words (by_twelve m.reply)).value ∷ l) (words-of-replies made)

calls-made : (s : State) (store : Store) (calls : List Call) → calls_of (run s store calls).made ≡ calls
unfolding run
calls-made s store [] = refl
calls-made s store (call ∷ calls) =
    let o = step s store call in
    ap (λ (l : List Call). call ∷ l) (calls-made o.state o.store calls)

module _ (s : State) (store : Store) (calls : List Call) where
  -- the words of the answers, the state and the store
  pub twelve-answered : (let r = run s store calls in
      let mixed = mixed_run s store (map of_twelve calls) in
      (words_of mixed.made ≡ reply_words r.made) × ((mixed.state ≡ r.state) × (mixed.store ≡ r.store)))
  twelve-answered =
      let same = twelve-alone s store calls in (
        ap (λ (r : EventRun State MixedCall MixedReply). words_of r.made) same ∙ words-of-replies (run s store calls).made,
        (ap (λ (r : EventRun State MixedCall MixedReply). r.state) same, ap (λ (r : EventRun State MixedCall MixedReply). r.store) same),
      )

  pub twelve-demand : (j : Journal) → MixedDemand j s store (map of_twelve calls) → Demand3 j s store calls
  twelve-demand j demand =
      let counts : counted_in mixed_step counts_as s store (map of_twelve calls) ≡ (run s store calls).made =
      ap (λ (r : EventRun State MixedCall MixedReply). counted counts_as r.made) (twelve-alone s store calls) ∙ twelve-count (run s store calls).made in
      subst (Demand3 j s store) (ap calls_of counts ∙ calls-made s store calls) demand.demand3

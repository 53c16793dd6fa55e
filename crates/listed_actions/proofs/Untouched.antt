-- Passing 11 to 15 and 21 in turn is decided on the beginning table: an action that passes changes what is found of its own cluster
-- alone, and the number of staged clusters by what `staged_after` says. Assumes nothing.
use Prim.Native.Nat.{ℕ, ◌+◌}
use mathlib.Core.Path.{◌≡◌, refl, sym, ap, ◌∙◌}
use mathlib.Core.Bool.{true, false, ◌||◌}
use mathlib.Core.List.{List, [], ◌∷◌, ◌++◌}
use mathlib.Core.Option.{some}
use native.Mathlib.Omega.{arith}
use lib.Dec.{eqb}
use lib.ListN.{length}
use borrow.Author.Tests.{eqb-true, not-false}
use Rattle.base.specs.Refusals.{none_applies}
use Rattle.base.proofs.Tests.{and_left, and_right, bool_cases, none-some, or_left_false, or_right_false}
use Rattle.clusters.specs.Cluster.{Cluster, with_mark}
use Rattle.clusters.specs.Table.{Table, find, rising_above, table_within}
use Rattle.clusters.proofs.Equal.{find-low}
use Rattle.clusters.proofs.Limits.{rising-says, rising-clusters}
use Rattle.actions.specs.Action.{Action, install, update, remove, take_out, action_part, apply, action_within, actions_within}
use Rattle.actions.specs.Refusals.{touched, cluster_absent, action_refusals, passes, pass_in_turn}
use Rattle.actions.proofs.StagedLaws.{staged-is}
use Rattle.actions.proofs.Placing.{take-out-absent}
use Rattle.actions.proofs.Changes.{passes-says, apply-other, touched-append, touched-one}
use Rattle.actions.proofs.Limits.{length-insert, length-replace, apply-within}
use Rattle.listed_actions.specs.InTurn.{passes_untouched, staged_after, pass_in_turn_on}

-- ---- how many are staged

one_out : (part last : ℕ) (t : Table) (c : Cluster) → rising_above last t ≡ true → find part t ≡ some c → length (take_out part t) + 1 ≡ length t
unfolding find take_out
one_out part last [] c r e = none-some e
one_out part last (d ∷ t) c r e =
    let s = rising-says last d t r in
    let ih : find part t ≡ some c → length (take_out part t) + 1 ≡ length t = one_out part d.part t c s.rest in
    bool_cases (eqb part d.part)
    (λ z. rw (z, take-out-absent part t (find-low part d.part t (omega (arith, eqb-true part d.part z)) s.rest)) (omega arith))
    λ z. rw z (omega (arith, ih (rw z at e)))

staged-after : (a : Action) (t : Table) → table_within t ≡ true → cluster_absent (find (action_part a) t) a ≡ false → length (apply a t) ≡ staged_after a (length t)
unfolding apply staged_after cluster_absent
staged-after (install c) t w h = rw (length-insert (with_mark c false) t) (omega arith)
staged-after (update c) t w h = length-replace c t
staged-after (remove part) t w h =
    let p = staged-is (find part t) (not-false _ h) in
    omega (arith, one_out part 0 t p.0 (rising-clusters t w) p.1)

-- ---- what is staged, seen from the beginning table

record Staged (beginning staged : Table) (n : ℕ) (listed : List Action) : Type 0 where
  same : (part : ℕ) → touched part listed ≡ false → find part staged ≡ find part beginning
  size : length staged ≡ n
  within : table_within staged ≡ true

module _ (b t : Table) (n : ℕ) (listed : List Action) where
  -- 12 to 15 and 21 of an untouched cluster
  passes-untouched : (a : Action) → find (action_part a) t ≡ find (action_part a) b → length t ≡ n → touched (action_part a) listed ≡ false
      → passes t listed a ≡ passes_untouched b n a
  unfolding passes action_refusals none_applies passes_untouched
  passes-untouched a e l u = rw (u, e, l)

  passes-touched : (a : Action) → touched (action_part a) listed ≡ true → passes t listed a ≡ false
  unfolding passes action_refusals none_applies
  passes-touched a u = rw u

  one-more-staged : (a : Action) → Staged b t n listed → action_within a ≡ true → passes t listed a ≡ true
      → Staged b (apply a t) (staged_after a n) (listed ++ a ∷ [])
  one-more-staged a s w p =
      let q = passes-says t listed a p in
      record {
        same = λ part u. let v : touched part listed || touched part (a ∷ []) ≡ false = rw (touched-append part listed (a ∷ [])) at u in
            apply-other a t part (sym (touched-one part a) ∙ or_right_false (touched part listed) _ v) ∙ s.same part (or_left_false _ (touched part (a ∷ [])) v);
        size = staged-after a t s.within q.not-absent ∙ ap (staged_after a) s.size;
        within = apply-within t listed a s.within w p;
      }

in-turn-on : (b t : Table) (n : ℕ) (listed acts : List Action) → Staged b t n listed → actions_within acts ≡ true
    → pass_in_turn t listed acts ≡ pass_in_turn_on b n listed acts
unfolding pass_in_turn pass_in_turn_on actions_within
in-turn-on b t n listed [] s w = refl
in-turn-on b t n listed (a ∷ acts) s w =
    let ih : passes t listed a ≡ true → pass_in_turn (apply a t) (listed ++ a ∷ []) acts ≡ pass_in_turn_on b (staged_after a n) (listed ++ a ∷ []) acts =
    λ p. in-turn-on b (apply a t) (staged_after a n) (listed ++ a ∷ []) acts (one-more-staged b t n listed a s (and_left _ _ w) p) (and_right (action_within a) _ w) in
    bool_cases (touched (action_part a) listed)
    (λ u. rw (u, passes-touched b t n listed a u))
    λ u. let same = passes-untouched b t n listed a (s.same (action_part a) u) s.size u in
    bool_cases (passes t listed a)
    (λ p. rw (u, p, sym same ∙ p) (ih p))
    λ p. rw (u, p, sym same ∙ p)

-- from an empty list, the beginning table is staged
pub pass-in-turn-is : (b : Table) (acts : List Action) → table_within b ≡ true → actions_within acts ≡ true
    → pass_in_turn b [] acts ≡ pass_in_turn_on b (length b) [] acts
pass-in-turn-is b acts w = in-turn-on b b (length b) [] acts (record { same = λ part u. refl; size = refl; within = w })

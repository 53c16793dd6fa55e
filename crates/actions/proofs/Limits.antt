-- Actions within the limits that pass 11 to 15 and 21 in turn keep a table within its limits and rising. Assumes nothing.
use mathlib.Core.Path.{◌≡◌, refl, sym, ap, subst}
use mathlib.Core.Bool.{Bool, true, false}
use mathlib.Core.List.{List, [], ◌∷◌, ◌++◌}
use mathlib.Core.Option.{none}
use Prim.Native.Nat.{ℕ, suc, ◌≤◌, ◌<◌}
use native.Mathlib.Omega.{arith}
use lib.Dec.{leb, ltb, eqb}
use lib.ListN.{length}
use borrow.Author.Tests.{ltb-true, ltb-false, leb-true, leb-false, eqb-true, eqb-false}
use Rattle.base.proofs.Tests.{and_left, and_right, bool_cases, none-some}
use Rattle.clusters.specs.Cluster.{Cluster, with_mark, part_within, cluster_within}
use Rattle.clusters.specs.Table.{Table, find, rising_above, table_within, clusters_most}
use Rattle.clusters.proofs.Limits.{rising-says, rising-is, few-clusters, rising-clusters, table-is-within}
use Rattle.actions.specs.Action.{Action, install, update, remove, action_part, insert, replace, take_out, apply, apply_all, action_within, actions_within}
use Rattle.actions.specs.Refusals.{cluster_present, table_full, passes, pass_in_turn}
use Rattle.actions.proofs.StagedLaws.{not-staged}
use Rattle.actions.proofs.Changes.{passes-says}

part-at-least-one : (c : Cluster) → cluster_within c ≡ true → 0 < c.part
unfolding cluster_within part_within
part-at-least-one c h = omega (arith, leb-true 1 c.part (and_left _ (leb c.part 4294967295) (and_left (part_within c.part) _ h)))

-- the mark has no limit
marked-within : (c : Cluster) (mark : Bool) → cluster_within c ≡ true → cluster_within (with_mark c mark) ≡ true
unfolding cluster_within
marked-within c mark h = h

rising-from : (last higher : ℕ) (t : Table) → last ≤ higher → rising_above higher t ≡ true → rising_above last t ≡ true
rising-from last higher [] l h = unfold rising_above in refl
rising-from last higher (c ∷ t) l h =
    let r = rising-says higher c t h in
    rising-is last c t (record { over = omega (arith, r.over); within = r.within; rest = r.rest })

module _ (c : Cluster) (fine : cluster_within c ≡ true) where
  rising-insert : (last : ℕ) (t : Table) → last < c.part → find c.part t ≡ none → rising_above last t ≡ true → rising_above last (insert c t) ≡ true
  unfolding insert find
  rising-insert last [] l e h = rising-is last c [] (record { over = l; within = fine; rest = unfold rising_above in refl })
  rising-insert last (d ∷ t) l e h =
      let r = rising-says last d t h in
      let ih : d.part < c.part → find c.part t ≡ none → rising_above d.part (insert c t) ≡ true = λ z q. rising-insert d.part t z q r.rest in
      bool_cases (ltb c.part d.part)
      (λ z. rw z (rising-is last c (d ∷ t) (record { over = l; within = fine; rest = rising-is c.part d t (record { over = ltb-true _ _ z; within = r.within; rest = r.rest }) })))
      λ z. rw z (bool_cases (eqb c.part d.part) (λ y. none-some (sym (rw y at e)))
      λ y. rising-is last d (insert c t) (record { over = r.over; within = r.within; rest = ih (larger c.part d.part y (ltb-false _ _ z)) (rw y at e) }))
    where
      larger : (j k : ℕ) → eqb j k ≡ false → k ≤ j → k < j
      larger j k y z = let ne : j ≡ k → ⊥ = eqb-false j k y in omega arith

  rising-replace : (last : ℕ) (t : Table) → rising_above last t ≡ true → rising_above last (replace c t) ≡ true
  unfolding replace
  rising-replace last [] h = h
  rising-replace last (d ∷ t) h =
      let r = rising-says last d t h in
      let ih = rising-replace d.part t r.rest in
      bool_cases (eqb c.part d.part)
      (λ z. let same : c.part ≡ d.part = eqb-true _ _ z in
      rw z (rising-is last (with_mark c d.stays) (replace c t) (record { over = omega (arith, r.over); within = marked-within c d.stays fine; rest = subst (λ (y : ℕ). rising_above y (replace c t) ≡ true) (sym same) ih })))
      λ z. rw z (rising-is last d (replace c t) (record { over = r.over; within = r.within; rest = ih }))

rising-take-out : (part last : ℕ) (t : Table) → rising_above last t ≡ true → rising_above last (take_out part t) ≡ true
unfolding take_out
rising-take-out part last [] h = h
rising-take-out part last (d ∷ t) h =
    let r = rising-says last d t h in
    let ih = rising-take-out part d.part t r.rest in
    bool_cases (eqb part d.part) (λ z. rw z (rising-from last d.part (take_out part t) (omega (arith, r.over)) ih))
    λ z. rw z (rising-is last d (take_out part t) (record { over = r.over; within = r.within; rest = ih }))

pub length-insert : (c : Cluster) (t : Table) → length (insert c t) ≡ suc (length t)
unfolding insert
length-insert c [] = refl
length-insert c (d ∷ t) = let ih = length-insert c t in bool_cases (ltb c.part d.part) (λ z. rw z) λ z. rw z (ap suc ih)

pub length-replace : (c : Cluster) (t : Table) → length (replace c t) ≡ length t
unfolding replace
length-replace c [] = refl
length-replace c (d ∷ t) = let ih = length-replace c t in bool_cases (eqb c.part d.part) (λ z. rw z (ap suc ih)) λ z. rw z (ap suc ih)

pub length-take-out : (part : ℕ) (t : Table) → length (take_out part t) ≤ length t
unfolding take_out
length-take-out part [] = omega arith
length-take-out part (d ∷ t) = let ih = length-take-out part t in bool_cases (eqb part d.part) (λ z. rw z (omega arith)) λ z. rw z (omega arith)

-- ---- actions

applied : (a : Action) (t : Table) → action_within a ≡ true → cluster_present (find (action_part a) t) a ≡ false → table_full (length t) a ≡ false
    → table_within t ≡ true → table_within (apply a t) ≡ true
unfolding action_within cluster_present table_full apply
applied (install c) t fine h12 h15 h =
    let new = with_mark c false in
    table-is-within (insert new t) (rw (length-insert new t) (omega (arith, leb-false clusters_most (length t) h15)))
    (rising-insert new (marked-within c false fine) 0 t (part-at-least-one c fine) (not-staged (find c.part t) h12) (rising-clusters t h))
applied (update c) t fine h12 h15 h =
    table-is-within (replace c t) (rw (length-replace c t) (few-clusters t h)) (rising-replace c fine 0 t (rising-clusters t h))
applied (remove part) t fine h12 h15 h =
    table-is-within (take_out part t) (omega (arith, length-take-out part t, few-clusters t h)) (rising-take-out part 0 t (rising-clusters t h))

-- an action within the limits that passes 11 to 15 and 21 keeps a table within its limits
pub apply-within : (t : Table) (listed : List Action) (a : Action) → table_within t ≡ true → action_within a ≡ true → passes t listed a ≡ true → table_within (apply a t) ≡ true
apply-within t listed a h fine p =
    let q = passes-says t listed a p in
    applied a t fine q.not-present q.room h

-- and so do actions that pass in turn
pub apply-all-within : (t : Table) (listed acts : List Action) → table_within t ≡ true → actions_within acts ≡ true → pass_in_turn t listed acts ≡ true → table_within (apply_all t acts) ≡ true
unfolding apply_all pass_in_turn actions_within
apply-all-within t listed [] h fine p = h
apply-all-within t listed (a ∷ acts) h fine p =
    apply-all-within (apply a t) (listed ++ a ∷ []) acts (apply-within t listed a h (and_left _ _ fine) (and_left _ _ p)) (and_right (action_within a) _ fine) (and_right (passes t listed a) _ p)

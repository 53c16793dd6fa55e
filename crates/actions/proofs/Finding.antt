-- What is found in a table after a change. Assumes nothing.
use mathlib.Core.Path.{◌≡◌, refl, sym, ap, subst}
use mathlib.Core.Bool.{true, false, cond}
use mathlib.Core.List.{[], ◌∷◌}
use mathlib.Core.Option.{none, some}
use Prim.Native.Nat.{ℕ}
use lib.Dec.{ltb, eqb}
use borrow.Author.Tests.{eqb-true, eq-eqb}
use Rattle.base.proofs.Tests.{bool_cases, none-some}
use Rattle.clusters.specs.Cluster.{Cluster, with_mark}
use Rattle.clusters.specs.Table.{Table, find}
use Rattle.actions.specs.Action.{insert, replace, take_out}

-- ---- another cluster than the changed one

module _ (part : ℕ) (c : Cluster) (h : eqb part c.part ≡ false) where
  pub insert-other : (t : Table) → find part (insert c t) ≡ find part t
  unfolding find insert
  insert-other [] = rw h
  insert-other (d ∷ t) =
      let ih = insert-other t in
      bool_cases (ltb c.part d.part) (λ l. rw l (rw h)) λ l. rw l (ap (cond (eqb part d.part) (some d)) ih)

  pub replace-other : (t : Table) → find part (replace c t) ≡ find part t
  unfolding find replace
  replace-other [] = refl
  replace-other (d ∷ t) =
      let ih = replace-other t in
      bool_cases (eqb c.part d.part)
      (λ e. let z : eqb part d.part ≡ false = subst (λ (j : ℕ). eqb part j ≡ false) (eqb-true _ _ e) h in rw (e, h, z) ih)
      λ e. rw e (ap (cond (eqb part d.part) (some d)) ih)

module _ (part gone : ℕ) (h : eqb part gone ≡ false) where
  pub take-out-other : (t : Table) → find part (take_out gone t) ≡ find part t
  unfolding find take_out
  take-out-other [] = refl
  take-out-other (d ∷ t) =
      let ih = take-out-other t in
      bool_cases (eqb gone d.part)
      (λ e. let z : eqb part d.part ≡ false = subst (λ (j : ℕ). eqb part j ≡ false) (eqb-true _ _ e) h in rw (e, z) ih)
      λ e. rw e (ap (cond (eqb part d.part) (some d)) ih)

-- ---- the changed cluster

eqb_same : (n : ℕ) → eqb n n ≡ true
eqb_same n = eq-eqb n n refl

pub insert-same : (c : Cluster) (t : Table) → find c.part t ≡ none → find c.part (insert c t) ≡ some c
unfolding find insert
insert-same c [] e = rw (eqb_same c.part)
insert-same c (d ∷ t) e =
    let ih : find c.part t ≡ none → find c.part (insert c t) ≡ some c = insert-same c t in
    bool_cases (ltb c.part d.part) (λ l. rw l (rw (eqb_same c.part)))
    λ l. rw l (bool_cases (eqb c.part d.part) (λ z. none-some (sym (rw z at e))) λ z. rw z (ih (rw z at e)))

the_one : (d old : Cluster) → some d ≡ some old → d ≡ old
the_one d old e = cc

-- it keeps the mark of the one that stood there
pub replace-same : (c old : Cluster) (t : Table) → find c.part t ≡ some old → find c.part (replace c t) ≡ some (with_mark c old.stays)
unfolding find replace
replace-same c old [] e = none-some e
replace-same c old (d ∷ t) e =
    let ih : find c.part t ≡ some old → find c.part (replace c t) ≡ some (with_mark c old.stays) = replace-same c old t in
    bool_cases (eqb c.part d.part)
    (λ z. let there : some d ≡ some old = rw z at e in rw z (rw (eqb_same c.part) (ap (λ (x : Cluster). some (with_mark c x.stays)) (the_one d old there))))
    λ z. rw (z, z) (ih (rw z at e))

pub take-out-same : (part : ℕ) (t : Table) → find part (take_out part t) ≡ none
unfolding find take_out
take-out-same part [] = refl
take-out-same part (d ∷ t) = let ih = take-out-same part t in bool_cases (eqb part d.part) (λ z. rw z ih) λ z. rw (z, z) ih

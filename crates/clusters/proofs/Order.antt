-- The derived order of versions is the one that the definitions say. Assumes nothing.
use Rattle.std.proofs.Common.{◌≡◌, ◌<◌, sym, ℕ, Bool, true, false, cond, not, arith, Option, Some, Ordering}
use lib.Dec.{eqb, ltb}
use borrow.Author.Tests.{ltb-true, ltb-false, lt-ltb, le-ltb, eq-eqb, ne_eqb, eqb-true, eqb-false}
use Rattle.std.specs.Ordering.{partial_gt, partial_ge, nat_cmp, is_gt, is_ge, is_some_and, partial_ordering_then}
use Rattle.base.proofs.Tests.{bool_cases}
use Rattle.text.specs.declared.version.Version.{Version}
use Rattle.text.specs.contracts.version.VersionPartialOrd.TheImpl.{partial_cmp-value}
use Rattle.clusters.specs.Version.{above, at_or_above, fulfils}

module _ (x y : ℕ) where
  equal_other : eqb x y ≡ true → eqb y x ≡ true
  equal_other e = eq-eqb y x (sym (eqb-true x y e))

  less-not-equal : ltb x y ≡ true → eqb x y ≡ false
  less-not-equal l = ne_eqb x y λ e. omega (arith, ltb-true x y l)

  less-not-equal-other : ltb x y ≡ true → eqb y x ≡ false
  less-not-equal-other l = ne_eqb y x λ e. omega (arith, ltb-true x y l)

  less-not-above : ltb x y ≡ true → ltb y x ≡ false
  less-not-above l = le-ltb _ _ (let h : x < y = ltb-true x y l in omega arith)

  other-above : ltb x y ≡ false → eqb x y ≡ false → ltb y x ≡ true
  other-above l e = lt-ltb _ _ (let h : x ≡ y → ⊥ = eqb-false x y e in omega (arith, ltb-false x y l))

  other-not-equal : eqb x y ≡ false → eqb y x ≡ false
  other-not-equal e = ne_eqb y x λ q. eqb-false x y e (sym q)

  -- a part that differs decides, and equal ones leave it to the others
  gt-step : (o : Option Ordering) (t : Bool) → is_some_and is_gt o ≡ t
      → is_some_and is_gt (partial_ordering_then (Some (nat_cmp x y)) o) ≡ cond (eqb x y) t (ltb y x)
  gt-step o t h =
      bool_cases (ltb x y) (λ l. rw (l, less-not-equal l, less-not-above l)) λ l.
      bool_cases (eqb x y) (λ e. rw (l, e) h) λ e. rw (l, e, other-above l e)

  gt-last : is_some_and is_gt (Some (nat_cmp x y)) ≡ ltb y x
  gt-last =
      bool_cases (ltb x y) (λ l. rw (l, less-not-above l)) λ l.
      bool_cases (eqb x y) (λ e. let same = eqb-true x y e in let m : ltb y x ≡ false = le-ltb _ _ (omega arith) in rw (l, e, m)) λ e. rw (l, e, other-above l e)

  ge-step : (o : Option Ordering) (t : Bool) → is_some_and is_ge o ≡ not t
      → is_some_and is_ge (partial_ordering_then (Some (nat_cmp x y)) o) ≡ not (cond (eqb y x) t (ltb x y))
  ge-step o t h =
      bool_cases (ltb x y) (λ l. rw (l, less-not-equal-other l)) λ l.
      bool_cases (eqb x y) (λ e. rw (l, e, equal_other e) h) λ e. rw (l, e, other-not-equal e)

  ge-last : is_some_and is_ge (Some (nat_cmp x y)) ≡ not (ltb x y)
  ge-last = bool_cases (ltb x y) (λ l. rw l) λ l. bool_cases (eqb x y) (λ e. rw (l, e)) λ e. rw (l, e)

pub above-is : (v w : Version) → partial_gt partial_cmp-value.it v w ≡ above v w
unfolding above
above-is v w = gt-step v.first w.first _ _ (gt-step v.second w.second _ _ (gt-step v.third w.third _ _ (gt-last v.fourth w.fourth)))

pub at-or-above-is : (v least : Version) → partial_ge partial_cmp-value.it v least ≡ at_or_above v least
unfolding above at_or_above
at-or-above-is v w = ge-step v.first w.first _ _ (ge-step v.second w.second _ _ (ge-step v.third w.third _ _ (ge-last v.fourth w.fourth)))

pub fulfils-same : (v least : Version) → v.first ≡ least.first → at_or_above v least ≡ fulfils v least
unfolding fulfils
fulfils-same v least e = rw (eq-eqb v.first least.first e)

pub fulfils-other : (v least : Version) → (v.first ≡ least.first → ⊥) → eqb v.first least.first ≡ fulfils v least
unfolding fulfils
fulfils-other v least n = rw (ne_eqb v.first least.first n)

-- A check that answers the first refusal, or none: `search numbers` closes each of its returns, whether it answers by an Option of the
-- number or by the number and 0. Where it answers 0 none applies, because no number of a list is 0. Assumes nothing.
use Prim.Native.Nat.{ℕ}
use mathlib.Core.Path.{◌≡◌, refl, sym, ap, ◌∙◌}
use mathlib.Core.Bool.{Bool, true, false, not, cond, ◌&&◌, ◌||◌}
use mathlib.Core.List.{List, [], ◌∷◌}
use mathlib.Core.Option.{Option, none, some}
use lib.Dec.{eqb}
use borrow.Author.Tests.{not-true, eqb-false, eq-eqb, ne_eqb}
use Rattle.base.specs.Refusals.{Refusal, refuse◌when◌, first_refusal, none_applies, number_or_zero}
use Rattle.base.proofs.Tests.{and_left, and_right, or-first, or-second}
use Rattle.base.proofs.Ladder.{ladder, told, told-no, told-yes}

-- ---- the first, or none

pub first-stop : (n : ℕ) (b : Bool) (rs : List Refusal) → b ≡ true → some n ≡ first_refusal ((refuse n when b) ∷ rs)
unfolding first_refusal
first-stop n b rs e = rw e

pub first-on : (x : Option ℕ) (n : ℕ) (b : Bool) (rs : List Refusal) → b ≡ false → x ≡ first_refusal rs → x ≡ first_refusal ((refuse n when b) ∷ rs)
unfolding first_refusal
first-on x n b rs e same = rw e same

pub first-none : none ≡ first_refusal []
unfolding first_refusal
first-none = refl

-- ---- the number, or 0

pub number-stop : (n : ℕ) (b : Bool) (rs : List Refusal) → b ≡ true → n ≡ number_or_zero (first_refusal ((refuse n when b) ∷ rs))
unfolding first_refusal
number-stop n b rs e = rw e

pub number-on : (n x : ℕ) (b : Bool) (rs : List Refusal) → b ≡ false → x ≡ number_or_zero (first_refusal rs)
    → x ≡ number_or_zero (first_refusal ((refuse n when b) ∷ rs))
unfolding first_refusal
number-on n x b rs e same = rw e same

pub no_number : 0 ≡ number_or_zero (first_refusal [])
unfolding first_refusal
no_number = refl

-- conditions that are negated or joined
pub told-not : (r t b : Bool) → r ≡ t → not r ≡ b → not t ≡ b
told-not r t b e f = ap not (sym e) ∙ f

pub not_equal : (a b : ℕ) → a ≡ b → not (eqb a b) ≡ false
not_equal a b e = ap not (eq-eqb a b e)

pub not-unequal : (a b : ℕ) → (a ≡ b → ⊥) → not (eqb a b) ≡ true
not-unequal a b e = ap not (ne_eqb a b e)

pub or-neither : (a b : Bool) → a ≡ false → b ≡ false → a || b ≡ false
or-neither a b e f = rw (e, f)

pub ruleset numbers = (first-stop, first-on, first-none, number-stop, number-on, no_number, ladder, told, told-no, told-yes, told-not, not_equal, not-unequal, or-first, or-second, or-neither)

-- ---- the 0

-- no number of the list is 0
abbrev pub none_zero : List Refusal → Bool
none_zero [] = true
none_zero (r ∷ rs) = not (eqb r.number 0) && none_zero rs

-- so where the check answers 0, none applies
pub zero-none : (rs : List Refusal) → none_zero rs ≡ true → 0 ≡ number_or_zero (first_refusal rs) → first_refusal rs ≡ none
unfolding first_refusal
zero-none [] h z = refl
zero-none (r ∷ rs) h z = go r.applies z (zero-none rs (and_right (not (eqb r.number 0)) (none_zero rs) h))
  where
    go : (b : Bool) → 0 ≡ number_or_zero (cond b (some r.number) (first_refusal rs)) → (0 ≡ number_or_zero (first_refusal rs) → first_refusal rs ≡ none)
        → cond b (some r.number) (first_refusal rs) ≡ none
    go true z ih = absurd (eqb-false r.number 0 (not-true _ (and_left (not (eqb r.number 0)) (none_zero rs) h)) (sym z))
    go false z ih = ih z

-- and the check passes exactly where it answers 0
pub zero-passes : (rs : List Refusal) (n : ℕ) → none_zero rs ≡ true → n ≡ number_or_zero (first_refusal rs) → eqb n 0 ≡ none_applies rs
unfolding first_refusal none_applies
zero-passes [] n h e = eq-eqb n 0 e
zero-passes (r ∷ rs) n h e = go r.applies e (zero-passes rs n (and_right (not (eqb r.number 0)) (none_zero rs) h))
  where
    go : (b : Bool) → n ≡ number_or_zero (cond b (some r.number) (first_refusal rs)) → (n ≡ number_or_zero (first_refusal rs) → eqb n 0 ≡ none_applies rs)
        → eqb n 0 ≡ not b && none_applies rs
    go true e ih = rw e (not-true _ (and_left (not (eqb r.number 0)) (none_zero rs) h))
    go false e ih = ih e

-- a check of the parts decides as a call's own refusals do
module _ (own rs : List Refusal) (n : ℕ) (e : n ≡ number_or_zero (first_refusal rs)) (same : first_refusal own ≡ first_refusal rs) where
  pub told-number : n ≡ number_or_zero (first_refusal own)
  told-number = e ∙ ap number_or_zero (sym same)

  pub told_none : n ≡ 0 → none_zero rs ≡ true → first_refusal own ≡ none
  told_none zero known = same ∙ zero-none rs known (sym zero ∙ e)

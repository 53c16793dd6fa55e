-- Numbers added up over a list of places, and over all places below a number. As many different places below a number as it counts
-- are all of them, in some order: so both totals are the same. Assumes nothing.
use Prim.Native.Nat.{ℕ, zero, suc, ◌+◌, ◌≤◌, ◌<◌}
use mathlib.Core.Path.{◌≡◌, refl}
use mathlib.Core.Bool.{cond}
use mathlib.Core.List.{List, [], ◌∷◌}
use native.Mathlib.Omega.{arith}
use lib.Dec.{eqb}
use borrow.Author.Tests.{eqb-true, eqb-false}
use Rattle.base.proofs.Tests.{bool_cases, cond_cases}

abbrev pub total_of : (ℕ → ℕ) → List ℕ → ℕ
total_of f [] = 0
total_of f (k ∷ ks) = f k + total_of f ks

abbrev pub total_below : ℕ → (ℕ → ℕ) → ℕ
total_below zero f = 0
total_below (suc n) f = f 0 + total_below n (λ k. f (suc k))

-- 1 at a place and 0 at every other: its total is how often the place is in a list
abbrev pub mark_at : ℕ → ℕ → ℕ
mark_at m k = cond (eqb m k) 1 0

abbrev pub NoneTwice : List ℕ → Type 0
NoneTwice [] = Unit {0}
NoneTwice (k ∷ ks) = (total_of (mark_at k) ks ≡ 0) × NoneTwice ks

abbrev pub EachBelow : ℕ → List ℕ → Type 0
EachBelow n [] = Unit {0}
EachBelow n (k ∷ ks) = (k < n) × EachBelow n ks

-- the last place below a number
total-last : (n : ℕ) (f : ℕ → ℕ) → total_below (suc n) f ≡ total_below n f + f n
total-last zero f = omega arith
total-last (suc n) f = omega (arith, total-last n (λ k. f (suc k)))

-- ---- a place taken out of a list

abbrev without : ℕ → List ℕ → List ℕ
without m [] = []
without m (k ∷ ks) = cond (eqb m k) ks (k ∷ without m ks)

module _ (m : ℕ) where
  without-total : (f : ℕ → ℕ) (ks : List ℕ) → total_of f (without m ks) ≤ total_of f ks
  without-total f [] = omega arith
  without-total f (k ∷ ks) =
      cond_cases (λ (l : List ℕ). total_of f l ≤ f k + total_of f ks) (eqb m k) _ _ (λ _. omega arith) (λ _. omega (arith, without-total f ks))

  without-none-twice : (ks : List ℕ) → NoneTwice ks → NoneTwice (without m ks)
  without-none-twice [] h = tt
  without-none-twice (k ∷ ks) h =
      cond_cases NoneTwice (eqb m k) _ _ (λ _. h.1) (λ _. (omega (arith, without-total (mark_at k) ks, h.0), without-none-twice ks h.1))

  -- a list that does not have the largest place, or has it taken out
  below_less : (ks : List ℕ) → EachBelow (suc m) ks → total_of (mark_at m) ks ≡ 0 → EachBelow m ks
  below_less [] b z = tt
  below_less (k ∷ ks) b z =
      bool_cases (eqb m k)
      (λ e. absurd (let one : mark_at m k ≡ 1 = rw e in omega arith))
      (λ e. let other : m ≡ k → ⊥ = eqb-false m k e in
      (omega (arith, b.0), below_less ks b.1 (omega arith)))

  without-below : (ks : List ℕ) → EachBelow (suc m) ks → NoneTwice ks → EachBelow m (without m ks)
  without-below [] b h = tt
  without-below (k ∷ ks) b h =
      cond_cases (EachBelow m) (eqb m k) _ _
      (λ e. below_less ks b.1 (rw (eqb-true m k e) h.0))
      (λ e. let other : m ≡ k → ⊥ = eqb-false m k e in
      (omega (arith, b.0), without-below ks b.1 h.1))

  -- either the list does not have the place, or its total is that of the place and the others
  has-or-not : {X : Type 0} (ks : List ℕ) → (total_of (mark_at m) ks ≡ 0 → X)
      → (((f : ℕ → ℕ) → total_of f ks ≡ f m + total_of f (without m ks)) → X) → X
  has-or-not [] lacks gives = lacks refl
  has-or-not (k ∷ ks) lacks gives =
      bool_cases (eqb m k)
      (λ e. gives λ f. rw (e, eqb-true m k e))
      (λ e. has-or-not ks (λ z. lacks (rw e (omega arith))) (λ has. gives λ f. rw e (omega (arith, has f))))

-- ---- different places below a number

-- they are at most as many
few-places : (n : ℕ) (ks : List ℕ) → EachBelow n ks → NoneTwice ks → total_of (λ _. 1) ks ≤ n
few-places zero [] b h = omega arith
few-places zero (k ∷ ks) b h = absurd (omega (arith, b.0))
few-places (suc m) ks b h =
    has-or-not m ks
    (λ z. omega (arith, few-places m ks (below_less m ks b z) h))
    (λ has. omega (arith, has (λ _. 1), few-places m (without m ks) (without-below m ks b h) (without-none-twice m ks h)))

-- and if they are as many, they are all of them
pub all-places : (n : ℕ) (ks : List ℕ) → total_of (λ _. 1) ks ≡ n → EachBelow n ks → NoneTwice ks → (f : ℕ → ℕ) → total_of f ks ≡ total_below n f
all-places zero [] e b h f = refl
all-places zero (k ∷ ks) e b h f = absurd (omega (arith, b.0))
all-places (suc m) ks e b h f =
    has-or-not m ks
    (λ z. absurd (omega (arith, few-places m ks (below_less m ks b z) h)))
    (λ has. omega (
      arith,
      has f,
      all-places m (without m ks) (omega (arith, has (λ _. 1))) (without-below m ks b h) (without-none-twice m ks h) f,
      total-last m f,
    ))

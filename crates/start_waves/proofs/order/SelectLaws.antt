-- The elements that a test holds of, taken out of a list: of two lists behind one another, by two tests that agree, and element by element
-- as a loop goes along. Assumes nothing.
use Prim.Native.Nat.{ℕ, ◌+◌, ◌<◌, ◌≤◌}
use mathlib.Core.Path.{◌≡◌, refl, ap}
use mathlib.Core.Bool.{Bool, true, false, cond}
use mathlib.Core.List.{List, [], ◌∷◌, ◌++◌, append-nil}
use native.Mathlib.Numerals.{add-one}
use native.Mathlib.Omega.{arith}
use lib.ListN.{length, take, get_or}
use lib.Seq.{take-suc}
use Rattle.base.proofs.Tests.{cond_cases}
use Rattle.start_waves.specs.StartOrder.{select}

module _ {A : Type 0} (test : A → Bool) where
  select-append : (xs ys : List A) → select test (xs ++ ys) ≡ select test xs ++ select test ys
  unfolding select
  select-append [] ys = refl
  select-append (x ∷ xs) ys = go (test x) (select-append xs ys)
    where
      go : (b : Bool) → select test (xs ++ ys) ≡ select test xs ++ select test ys
          → cond b (x ∷ select test (xs ++ ys)) (select test (xs ++ ys)) ≡ cond b (x ∷ select test xs) (select test xs) ++ select test ys
      go true e = ap (λ (l : List A). x ∷ l) e
      go false e = e

  pub select-few : (xs : List A) → length (select test xs) ≤ length xs
  unfolding select
  select-few [] = omega arith
  select-few (x ∷ xs) = cond_cases (λ (l : List A). length l ≤ length (x ∷ xs)) (test x) _ _ (λ z. omega (arith, select-few xs)) λ z. omega (arith, select-few xs)

  -- one element more
  module _ (xs : List A) (i : ℕ) (d : A) (h : i < length xs) where
    pub select-next : test (get_or xs i d) ≡ true → select test (take (i + 1) xs) ≡ select test (take i xs) ++ get_or xs i d ∷ []
    unfolding select
    select-next e = rw (add-one, take-suc xs i d h, select-append (take i xs) (get_or xs i d ∷ [])) (rw e)

    pub select-past : test (get_or xs i d) ≡ false → select test (take (i + 1) xs) ≡ select test (take i xs)
    unfolding select
    select-past e = rw (add-one, take-suc xs i d h, select-append (take i xs) (get_or xs i d ∷ []), e) (append-nil (select test (take i xs)))

-- two tests that agree on the elements
pub select-same : {A : Type 0} (test other : A → Bool) (xs : List A) → ((x : A) → test x ≡ other x) → select test xs ≡ select other xs
unfolding select
select-same test other [] e = refl
select-same test other (x ∷ xs) e = rw (e x, select-same test other xs e)

-- The digits of a number: two equations and an induction, by which every other proof goes, and how many they are. Assumes nothing.
use Prim.Native.Nat.{ℕ, zero, suc, ◌+◌, ◌/◌, ◌%◌, ◌^◌, ◌≤◌, ◌<◌}
use mathlib.Core.Path.{◌≡◌, refl}
use mathlib.Core.Bool.{Bool, true, false}
use mathlib.Core.List.{[], ◌∷◌, ◌++◌}
use native.Mathlib.Omega.{arith}
use native.Mathlib.Nat.{one-le-pow}
use lib.Dec.{ltb}
use lib.ListN.{length, length-append}
use borrow.Author.Tests.{lt-ltb, le-ltb, ltb-true, ltb-false}
use Rattle.base.proofs.Tests.{bool_cases}
use Rattle.text.specs.Digits.{digits_in, digits}

-- any number of steps from n up gives the same digits
enough-steps : (k j n : ℕ) → n ≤ k → n ≤ j → digits_in k n ≡ digits_in j n
unfolding digits_in
enough-steps zero zero n h l = refl
enough-steps zero (suc j) n h l = rw (lt-ltb n 10 (omega arith))
enough-steps (suc k) zero n h l = rw (lt-ltb n 10 (omega arith))
enough-steps (suc k) (suc j) n h l = go (ltb n 10) refl λ o. enough-steps k j (n / 10) (omega arith) (omega arith)
  where
    go : (t : Bool) → ltb n 10 ≡ t → (10 ≤ n → digits_in k (n / 10) ≡ digits_in j (n / 10)) → digits_in (suc k) n ≡ digits_in (suc j) n
    go true e r = rw e
    go false e r = rw (e, r (ltb-false n 10 e))

pub digits-small : (n : ℕ) → n < 10 → digits n ≡ (48 + n) ∷ []
unfolding digits digits_in
digits-small zero h = refl
digits-small (suc n) h = rw (lt-ltb (suc n) 10 h)

pub digits-large : (n : ℕ) → 10 ≤ n → digits n ≡ digits (n / 10) ++ ((48 + n % 10) ∷ [])
unfolding digits digits_in
digits-large zero h = absurd (omega arith)
digits-large (suc n) h = rw (le-ltb (suc n) 10 h, enough-steps n (suc n / 10) (suc n / 10) (omega arith) (omega arith))

module _ (P : ℕ → Type 0) (small : (n : ℕ) → n < 10 → P n) (large : (n : ℕ) → 10 ≤ n → P (n / 10) → P n) where
  induction-in : (k n : ℕ) → n ≤ k → P n
  induction-in zero n h = small n (omega arith)
  induction-in (suc k) n h = go (ltb n 10) refl λ o. induction-in k (n / 10) (omega arith)
    where
      go : (t : Bool) → ltb n 10 ≡ t → (10 ≤ n → P (n / 10)) → P n
      go true e r = small n (ltb-true n 10 e)
      go false e r = let o : 10 ≤ n = ltb-false n 10 e in large n o (r o)

  -- to show something of every number, show it of those with one digit, and of n from n / 10
  pub digits-induction : (n : ℕ) → P n
  digits-induction n = induction-in n n (omega arith)

-- ---- how many digits there are

pub length-small : (n : ℕ) → n < 10 → length (digits n) ≡ 1
length-small n h = rw (digits-small n h)

pub length-large : (n : ℕ) → 10 ≤ n → length (digits n) ≡ length (digits (n / 10)) + 1
length-large n h = rw (digits-large n h) (length-append (digits (n / 10)) _)

-- no number has an empty text
pub some-digit : (n : ℕ) → 1 ≤ length (digits n)
some-digit = digits-induction _ (λ n h. omega (arith, length-small n h)) (λ n h r. omega (arith, length-large n h))

-- numbers below a power of ten, and from a power of ten on
pub digits-below : (k n : ℕ) → n < 10 ^ suc k → length (digits n) ≤ suc k
digits-below zero n h = omega (arith, length-small n h)
digits-below (suc k) n h =
    bool_cases (ltb n 10)
    (λ e. omega (arith, length-small n (ltb-true n 10 e)))
    (λ e. omega (arith, length-large n (ltb-false n 10 e), digits-below k (n / 10) (omega arith)))

pub digits_from : (k n : ℕ) → 10 ^ k ≤ n → suc k ≤ length (digits n)
digits_from zero n h = some-digit n
digits_from (suc k) n h =
    let some : 1 ≤ 10 ^ k = one-le-pow k 10 (omega arith) in
    omega (arith, length-large n (omega arith), digits_from k (n / 10) (omega arith))

pub five-digits : (n : ℕ) → n < 100000 → length (digits n) ≤ 5
five-digits n h = digits-below 4 n h

-- a number that fits a u32 has at most ten digits
pub ten-digits : (n : ℕ) → n ≤ 4294967295 → length (digits n) ≤ 10
ten-digits n h = digits-below 9 n (omega arith)

-- the same of a count of digits that a call gave
pub few-digits : (n r : ℕ) → n ≤ 4294967295 → r ≡ length (digits n) → r ≤ 10
few-digits n r h e = omega (arith, ten-digits n h)

-- how many digits a number has, for `using`
pub ruleset lengths = (length-small, length-large)

pub ruleset few_digits = ten-digits

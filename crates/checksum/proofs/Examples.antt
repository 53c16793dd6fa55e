-- Examples of document 01 and the boundaries of the sum, computed. Assumes nothing.
use Prim.Native.Nat.{ℕ, zero, suc}
use mathlib.Core.Path.{◌≡◌, refl}
use mathlib.Core.Bool.{true, false}
use mathlib.Core.List.{List, [], ◌∷◌, ◌++◌}
use Rattle.base.specs.Quoted.{bytes}
use Rattle.base.proofs.Tables.{◌gives◌, AllHold}
use Rattle.checksum.specs.declared.Sums.{Sums}
use Rattle.checksum.specs.RemainderTable.{remainders_from, is_remainder_table}
use Rattle.checksum.specs.Sum.{step, continued, sum_number, sum_of, sums_within}

-- "M1 sum of `abcde` is 51440."
pub m1 : sum_of (bytes "abcde") ≡ 51440
unfolding step continued sum_number sum_of
m1 = refl

-- "M2 sum of no bytes is 0."
pub m2 : sum_of [] ≡ 0
unfolding continued sum_number sum_of
m2 = refl

-- "mod 255", below it, at it and past it: 256 × c1 + c0
sums-computed : AllHold sum_of
    ((254 ∷ []) gives 65278
    ∷ (255 ∷ []) gives 0
    ∷ (254 ∷ 1 ∷ []) gives 65024
    ∷ (254 ∷ 2 ∷ []) gives 1
    ∷ (200 ∷ 0 ∷ []) gives 37320
    ∷ (200 ∷ 100 ∷ []) gives 62765
    ∷ (1 ∷ 2 ∷ []) gives 1027
    ∷ [])
unfolding step continued sum_number sum_of
sums-computed = refl

abbrev sums : ℕ → ℕ → Sums
sums c0 c1 = record { c0 = c0; c1 = c1 }

-- "c0 becomes (c0 + b) mod 255, then c1 becomes (c1 + c0) mod 255": sums that reach 254, 255 and 509, the largest
steps-computed : AllHold (λ (given : Sums × ℕ). step given.0 given.1)
    ((sums 254 254, 255) gives sums 254 253
    ∷ (sums 254 254, 254) gives sums 253 252
    ∷ (sums 254 0, 0) gives sums 254 254
    ∷ (sums 254 1, 0) gives sums 254 0
    ∷ (sums 254 253, 1) gives sums 0 253
    ∷ (sums 0 254, 255) gives sums 0 254
    ∷ (sums 0 0, 0) gives sums 0 0
    ∷ (sums 0 0, 254) gives sums 254 254
    ∷ [])
unfolding step
steps-computed = refl

-- "c0 and c1 are at most 254"
limits-computed : AllHold sums_within
    (sums 254 254 gives true ∷ sums 255 0 gives false ∷ sums 0 255 gives false ∷ [])
unfolding sums_within
limits-computed = refl

-- `count` numbers, from n on
numbers_from : ℕ → ℕ → List ℕ
numbers_from n zero = []
numbers_from n (suc count) = n ∷ numbers_from (suc n) count

-- A.4 "a table of 510 numbers, one for each sum from 0 to 509": 0 to 254 twice, and no number fewer, more or other
tables-computed : AllHold is_remainder_table
    ((numbers_from 0 255 ++ numbers_from 0 255) gives true
    ∷ (numbers_from 0 255 ++ numbers_from 0 254) gives false
    ∷ (numbers_from 0 255 ++ numbers_from 0 255 ++ 0 ∷ []) gives false
    ∷ (1 ∷ numbers_from 1 254 ++ numbers_from 0 255) gives false
    ∷ (numbers_from 0 256 ++ numbers_from 1 254) gives false
    ∷ (numbers_from 0 255 ++ numbers_from 0 254 ++ 253 ∷ []) gives false
    ∷ [])
unfolding remainders_from is_remainder_table numbers_from
tables-computed = refl

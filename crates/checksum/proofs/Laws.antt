-- What holds of every sum: a joined list continues the sum, a pair stays within its limit, and its number fits 16 bits.
-- Assumes nothing.
use Prim.Native.Nat.{ℕ, ◌+◌, ◌≤◌, ◌<◌}
use mathlib.Core.Bool.{true}
use mathlib.Core.Path.{◌≡◌, refl, ap}
use mathlib.Core.List.{List, [], ◌∷◌, ◌++◌}
use native.Mathlib.Numerals.{add-one}
use native.Mathlib.Omega.{arith}
use lib.Dec.{leb}
use lib.ListN.{length, drop, get_or, drop_of_length-le}
use lib.Seq.{drop-cons}
use borrow.Author.Tests.{leb-true, le-leb}
use Rattle.base.proofs.Tests.{and_left, and_right, and_both}
use Rattle.checksum.specs.declared.Sums.{Sums}
use Rattle.checksum.specs.Sum.{start_sums, step, continued, sum_number, sum_of, sums_within}

-- ---- the limit of a pair

-- what the limit says of each of the two
pub within : (s : Sums) → sums_within s ≡ true → (s.c0 ≤ 254) × (s.c1 ≤ 254)
unfolding sums_within
within s t =
    let c0 : leb s.c0 254 ≡ true = and_left (leb s.c0 254) (leb s.c1 254) t in
    let c1 : leb s.c1 254 ≡ true = and_right (leb s.c0 254) (leb s.c1 254) t in
    (leb-true s.c0 254 c0, leb-true s.c1 254 c1)

pub start-within : sums_within start_sums ≡ true
unfolding sums_within
start-within = refl

-- a byte leaves the pair within the limit, whatever it was
pub step-within : (s : Sums) (b : ℕ) → sums_within (step s b) ≡ true
unfolding sums_within step
step-within s b =
    let after = step s b in
    and_both (leb after.c0 254) (leb after.c1 254) (le-leb after.c0 254 (omega arith)) (le-leb after.c1 254 (omega arith))

pub continued-within : (s : Sums) (l : List ℕ) → sums_within s ≡ true → sums_within (continued s l) ≡ true
unfolding continued
continued-within s [] t = t
continued-within s (b ∷ l) t = continued-within (step s b) l (step-within s b)

-- ---- joined lists

-- the sum of a joined list is the sum continued
pub continued-append : (s : Sums) (a b : List ℕ) → continued s (a ++ b) ≡ continued (continued s a) b
unfolding continued
continued-append s [] b = refl
continued-append s (x ∷ a) b = continued-append (step s x) a b

pub sum_of-append : (a b : List ℕ) → sum_of (a ++ b) ≡ sum_number (continued (continued start_sums a) b)
unfolding sum_of
sum_of-append a b = ap sum_number (continued-append start_sums a b)

-- ---- the number

-- 256 × 254 + 254
pub number-most : (s : Sums) → sums_within s ≡ true → sum_number s ≤ 65278
unfolding sum_number
number-most s t = omega (arith, within s t)

pub sum_of-most : (l : List ℕ) → sum_of l ≤ 65278
unfolding sum_of
sum_of-most l = number-most (continued start_sums l) (continued-within start_sums l start-within)

-- ---- a loop along a list

pub continued-turn : (s : Sums) (l : List ℕ) (i : ℕ) → i < length l → continued s (drop i l) ≡ continued (step s (get_or l i 0)) (drop (i + 1) l)
unfolding continued
continued-turn s l i h = rw (drop-cons l i 0 h, add-one)

pub continued-end : (s : Sums) (l : List ℕ) (i : ℕ) → length l ≤ i → continued s (drop i l) ≡ s
unfolding continued
continued-end s l i h = rw (drop_of_length-le l {i = i} h)

-- The rule of the table of remainders at every entry, from the one test over the whole table; then the same for a read in two steps:
-- the part of the table from one number on, and an entry of that part. Assumes nothing.
use Prim.Native.Nat.{ℕ, zero, suc, ◌+◌, ◌-◌, ◌%◌, ◌≤◌, ◌<◌}
use mathlib.Core.Bool.{true}
use mathlib.Core.Path.{◌≡◌, ap, ◌∙◌}
use mathlib.Core.List.{List, [], ◌∷◌}
use native.Mathlib.Nat.{not-suc-le-zero}
use native.Mathlib.Omega.{arith}
use lib.Dec.{eqb}
use lib.ListN.{length, get_or, take, drop, length-drop}
use lib.Seq.{get_or-drop}
use borrow.Author.Rules.{part_to_end}
use borrow.Author.Tests.{eqb-true}
use Rattle.base.proofs.Tests.{and_left, and_right}
use Rattle.checksum.specs.RemainderTable.{remainders_from, is_remainder_table}

-- entry i of numbers that are the remainders of the sums from n on
entry-from : (numbers : List ℕ) (n i : ℕ) → remainders_from n numbers ≡ true → i < length numbers → get_or numbers i 0 ≡ (n + i) % 255
unfolding remainders_from
entry-from [] n i t h = absurd (not-suc-le-zero h)
entry-from (r ∷ rest) n zero t h = eqb-true r (n % 255) (and_left (eqb r (n % 255)) (remainders_from (suc n) rest) t) ∙ omega arith
entry-from (r ∷ rest) n (suc i) t h =
    entry-from rest (suc n) i (and_right (eqb r (n % 255)) (remainders_from (suc n) rest) t) (omega arith) ∙ omega arith

module _ (table : List ℕ) (t : is_remainder_table table ≡ true) where
  pub table-length : length table ≡ 510
  unfolding is_remainder_table
  table-length = eqb-true (length table) 510 (and_left (eqb (length table) 510) (remainders_from 0 table) t)

  -- entry n is the remainder of n
  pub remainder-at : (n : ℕ) → n ≤ 509 → get_or table n 0 ≡ n % 255
  unfolding is_remainder_table
  remainder-at n h =
      entry-from table 0 n (and_right (eqb (length table) 510) (remainders_from 0 table) t) (omega (arith, table-length)) ∙ omega arith

  module _ (sum added : ℕ) (h : sum + added ≤ 509) where
    abbrev part : List ℕ
    part = take (length table - added) (drop added table)

    pub part-reaches : sum < length part
    part-reaches = omega (arith, ap length (part_to_end table added), length-drop added table, table-length)

    pub remainder-in-part : get_or part sum 0 ≡ (sum + added) % 255
    remainder-in-part = rw (part_to_end table added, get_or-drop added table sum 0, remainder-at (added + sum) (omega arith)) (omega arith)

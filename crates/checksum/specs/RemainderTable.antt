-- The table of remainders by 255 that the code sums with.
use Rattle.std.specs.Prelude.{ℕ, suc, ◌%◌, Bool, true, ◌&&◌, List, [], ◌∷◌, eqb, length}

-- A.4 "one for each sum": the numbers are the remainders by 255 of n, n + 1 and so on
unfoldable pub remainders_from : ℕ → List ℕ → Bool
remainders_from n [] = true
remainders_from n (r ∷ rest) = eqb r (n % 255) && remainders_from (suc n) rest

-- A.4 "a table of 510 numbers, one for each sum from 0 to 509"
unfoldable pub is_remainder_table : List ℕ → Bool
is_remainder_table table = eqb (length table) 510 && remainders_from 0 table

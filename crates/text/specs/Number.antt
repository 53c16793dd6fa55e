-- "numbers in it are decimal without leading zeros". What these definitions mean is said by the laws of proofs/Meaning.antt:
-- what reads as a value is exactly the writing of that value.
use Rattle.std.specs.Prelude.{ℕ, ◌+◌, ◌-◌, ◌*◌, cond, List, [], ◌∷◌, length, drop, ltb, leb, eqb, Option, Some, None}
use Rattle.text.specs.declared.cursor.Cursor.{Cursor}
use Rattle.text.specs.Then.{and_then_read}

abbrev pub cursor : ℕ → Cursor
cursor p = record { at = p }

-- the value of a digit, and 10 of any other byte
unfoldable pub digit_of : ℕ → ℕ
digit_of b = cond (ltb b 48) 10 (cond (ltb 57 b) 10 (b - 48))

-- a number that has the value n so far and goes on at the position p with the bytes l, up to the first byte that is no digit.
-- A digit behind a lone 0 makes that 0 a leading zero
unfoldable pub number_goes_on : ℕ → ℕ → ℕ → List ℕ → Option (ℕ × Cursor)
number_goes_on most n p [] = Some (n, cursor p)
number_goes_on most n p (b ∷ l) =
    cond (leb 10 (digit_of b))
    (Some (n, cursor p))
    (cond (eqb n 0)
    None
    (cond (ltb most (n * 10 + digit_of b)) None (number_goes_on most (n * 10 + digit_of b) (p + 1) l)))

-- a number that begins at the position p with the bytes l
unfoldable pub number_begins : ℕ → ℕ → List ℕ → Option (ℕ × Cursor)
number_begins most p [] = None
number_begins most p (b ∷ l) =
    cond (leb 10 (digit_of b)) None (cond (ltb most (digit_of b)) None (number_goes_on most (digit_of b) (p + 1) l))

-- the number at a position of a text, at most as large as `most`
abbrev pub number_at : List ℕ → ℕ → ℕ → Option (ℕ × Cursor)
number_at s at most = number_begins most at (drop at s)

-- a text that is one number and nothing else
unfoldable pub whole_number : ℕ → List ℕ → Option (ℕ × Cursor)
whole_number most s =
    and_then_read None (number_at s 0 most) λ n next.
    cond (ltb next.at (length s)) None (Some (n, next))

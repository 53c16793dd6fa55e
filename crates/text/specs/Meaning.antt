-- What the laws of proofs/Meaning.antt and proofs/RoundTrip.antt say of texts. No contract cites it.
use Rattle.std.specs.Prelude.{ℕ, ◌+◌, ◌≡◌, Bool, true, ◌&&◌, ◌||◌, List, [], ◌∷◌, ◌++◌, length, drop, leb, ltb, eqb}
use Rattle.base.specs.Quoted.{dot}
use Rattle.text.specs.Number.{digit_of}

-- a text that does not begin with a digit: what ends a number
unfoldable pub no_digit_first : List ℕ → Bool
no_digit_first [] = true
no_digit_first (b ∷ l) = leb 10 (digit_of b)

-- the text stands in s from the position `at` to the position `next`
pub record Stands (s : List ℕ) (at : ℕ) (text : List ℕ) (next : ℕ) : Type 0 where
  pub behind : next ≡ at + length text
  pub bytes : drop at s ≡ text ++ drop next s

-- each byte of a text passes a test
unfoldable pub each_byte : (ℕ → Bool) → List ℕ → Bool
each_byte test [] = true
each_byte test (b ∷ l) = test b && each_byte test l

-- the bytes of which numbers and versions are made
unfoldable pub digit_or_dot : ℕ → Bool
digit_or_dot b = ltb (digit_of b) 10 || eqb b dot

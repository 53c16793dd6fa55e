-- "words are parted by one space. Numbers are decimal without leading zeros". A line is lent without its LF, so that a word ends at the next
-- space or at the end of the line.
use Rattle.std.specs.Prelude.{ℕ, ◌+◌, cond, List, [], ◌∷◌, length, drop, eqb, leb, Option, Some, None}
use Rattle.text.specs.declared.cursor.Cursor.{Cursor}
use Rattle.text.specs.Number.{cursor, whole_number}
use Rattle.text.specs.Then.{and_then_read}

-- "one space"
abbrev pub space : ℕ
space = 32

-- the word that a text begins with: its bytes up to the first space
unfoldable pub word : List ℕ → List ℕ
word [] = []
word (b ∷ l) = cond (eqb b space) [] (b ∷ word l)

-- the word at a position of a line. Behind the last word it is no bytes, which no line admits: "an empty word" is `unknown`
abbrev pub word_at : List ℕ → ℕ → List ℕ
word_at s at = word (drop at s)

-- the position behind the word at a position and behind the byte that ends it; past the end of the line where the word is the last
abbrev pub behind_word : List ℕ → ℕ → ℕ
behind_word s at = at + length (word_at s at) + 1

-- the number that the word at a position is, at most as large as `most`: "a number past its range" is `unknown`
unfoldable pub number_word : List ℕ → ℕ → ℕ → Option (ℕ × Cursor)
number_word s at most = and_then_read None (whole_number most (word_at s at)) λ n end. Some (n, cursor (behind_word s at))

-- the same of the last word of the line
unfoldable pub last_number : List ℕ → ℕ → ℕ → Option (ℕ × Cursor)
last_number s at most =
    and_then_read None (number_word s at most) λ n next.
    cond (leb next.at (length s)) None (Some (n, next))

-- "Fields are parted by commas; every line ends in LF."
use Rattle.std.specs.Prelude.{ℕ, zero, suc, ◌≤◌, Bool, true, false, cond, not, ◌||◌, List, [], ◌∷◌, ◌≡◌, eqb, length, drop}
use Rattle.base.specs.Quoted.{comma, LF}
use Rattle.text.specs.Meaning.{each_byte}

-- a byte that ends a field
unfoldable pub ends_field : ℕ → Bool
ends_field b = eqb b comma || eqb b LF

-- the field that a text begins with: its bytes up to the first comma or LF
unfoldable pub field : List ℕ → List ℕ
field [] = []
field (b ∷ l) = cond (ends_field b) [] (b ∷ field l)

-- the text behind that field and behind the byte that ends it
unfoldable pub behind_field : List ℕ → List ℕ
behind_field [] = []
behind_field (b ∷ l) = cond (ends_field b) l (behind_field l)

-- field number k of the line that a text begins with, counted from 0
unfoldable pub cell : ℕ → List ℕ → List ℕ
cell zero l = field l
cell (suc k) l = cell k (behind_field l)

-- the field is empty
abbrev pub is_empty : List ℕ → Bool
is_empty [] = true
is_empty (b ∷ l) = false

-- a byte that does not end a field
unfoldable pub field_byte : ℕ → Bool
field_byte b = not (ends_field b)

-- no byte of the list ends a field, so that it can stand as one
abbrev pub plain_field : List ℕ → Bool
plain_field l = each_byte field_byte l

-- a position within a text, at which the given rest of it begins
pub record Start (at : ℕ) (rest : List ℕ) (s : List ℕ) : Type 0 where
  pub within : at ≤ length s
  pub begins : drop at s ≡ rest

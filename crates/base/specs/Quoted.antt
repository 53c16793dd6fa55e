-- Texts of document 01 as lists of bytes, and the bytes that part them.
use Rattle.std.specs.Prelude.{ℕ, List, [], ◌∷◌}
use Prim.Native.Char.{code}
use Prim.Native.String.{String, [] as []ˢ, ◌∷◌ as ◌∷ˢ◌}

-- "Text is ASCII": the byte of a character is its code
abbrev pub bytes : String → List ℕ
bytes []ˢ = []
bytes (c ∷ˢ s) = code c ∷ bytes s

-- "LF is byte 10"
abbrev pub LF : ℕ
LF = 10

-- "Fields are parted by commas"
abbrev pub comma : ℕ
comma = 44

-- "four parts .. joined by dots"
abbrev pub dot : ℕ
dot = 46

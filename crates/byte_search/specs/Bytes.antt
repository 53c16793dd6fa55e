-- The first place of a byte in a list, and a part of a list.
use Rattle.std.specs.Prelude.{ℕ, List, eqb, take, drop}
use Rattle.std.specs.List.{position_or_len}

-- the place of the first byte b, or the list's length where there is none
abbrev pub index_of : ℕ → List ℕ → ℕ
index_of b l = position_or_len (λ x. eqb x b) l

-- the bytes of a list from `from` on and before `to`
unfoldable pub slice : ℕ → ℕ → List ℕ → List ℕ
slice from to l = drop from (take to l)

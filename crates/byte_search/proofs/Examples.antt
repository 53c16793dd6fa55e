-- The definitions on small texts, by computation: a byte at both ends, twice and nowhere, and parts of a text. Assumes nothing.
use Prim.Native.Nat.{ℕ}
use mathlib.Core.Path.{refl}
use mathlib.Core.List.{List, [], ◌∷◌}
use Rattle.base.specs.Quoted.{bytes, comma}
use Rattle.base.proofs.Tables.{◌gives◌, AllHold}
use Rattle.byte_search.specs.Bytes.{index_of, slice}

first : AllHold (index_of comma) (bytes ",a," gives 0 ∷ bytes "a,," gives 1 ∷ bytes "ab," gives 2 ∷ bytes "ab" gives 2 ∷ [] gives 0 ∷ [])
first = refl

-- the place `from` is in the part, the place `to` is not
abbrev part : ℕ → List ℕ
part to = slice 1 to (bytes "abcd")

parts : AllHold part (1 gives [] ∷ 2 gives bytes "b" ∷ 3 gives bytes "bc" ∷ 4 gives bytes "bcd" ∷ [])
unfolding slice
parts = refl

-- What the shared definitions give, computed. Assumes nothing.
use Prim.Native.Nat.{ℕ}
use mathlib.Core.Path.{refl}
use mathlib.Core.Bool.{Bool, true, false}
use mathlib.Core.List.{List, [], ◌∷◌}
use mathlib.Core.Option.{none, some}
use Rattle.base.specs.Quoted.{bytes, LF, comma, dot}
use Rattle.base.specs.Refusals.{Refusal, refuse◌when◌, first_refusal, none_applies, number_or_zero}
use Rattle.base.specs.Counted.{counted}
use Rattle.base.proofs.Tables.{◌gives◌, AllHold}

-- "Text is ASCII"
texts-computed : AllHold bytes
    ("" gives []
    ∷ "az" gives (97 ∷ 122 ∷ [])
    ∷ "09" gives (48 ∷ 57 ∷ [])
    ∷ "," gives (comma ∷ [])
    ∷ "." gives (dot ∷ [])
    ∷ "\n" gives (LF ∷ [])
    ∷ [])
texts-computed = refl

-- "Checked in this order": the first that applies, whatever its number
abbrev refusals : Bool → Bool → Bool → List Refusal
refusals a b c = (refuse 7 when a) ∷ (refuse 16 when b) ∷ (refuse 4 when c) ∷ []

first-computed : AllHold first_refusal
    (refusals false false false gives none
    ∷ refusals true true true gives some 7
    ∷ refusals false true true gives some 16
    ∷ refusals false false true gives some 4
    ∷ refusals false true false gives some 16
    ∷ [] gives none
    ∷ [])
unfolding first_refusal
first-computed = refl

none-computed : AllHold none_applies
    (refusals false false false gives true
    ∷ refusals true false false gives false
    ∷ refusals false true false gives false
    ∷ refusals false false true gives false
    ∷ [] gives true
    ∷ [])
unfolding none_applies
none-computed = refl

-- "the refusal number, or 0"
numbers-computed : AllHold number_or_zero (none gives 0 ∷ some 9 gives 9 ∷ [])
numbers-computed = refl

-- an array of three with a count: a count above the room is a list longer than the room
abbrev first_of : ℕ → List ℕ
first_of count = counted 3 0 count (7 ∷ 8 ∷ 9 ∷ [])

counted-computed : AllHold first_of
    (0 gives [] ∷ 2 gives (7 ∷ 8 ∷ []) ∷ 3 gives (7 ∷ 8 ∷ 9 ∷ []) ∷ 4 gives (0 ∷ 0 ∷ 0 ∷ 0 ∷ []) ∷ [])
counted-computed = refl

-- A part that the code takes of a slice is the part at its place, and a slice has one part at a place. Assumes nothing.
use Prim.Native.Nat.{ℕ, ◌+◌}
use mathlib.Core.Path.{◌≡◌, refl, sym, ap, ◌∙◌}
use mathlib.Core.List.{List, []}
use native.Mathlib.Omega.{arith}
use lib.ListN.{take, drop}
use denote.Ref.{Bor}
use Rattle.payload.specs.declared.place.PayloadPlace.{PayloadPlace}
use Rattle.payload.specs.Part.{PartOf, PartAt}

-- no bytes of a list
pub none-taken : (n : ℕ) (xs : List ℕ) → n ≡ 0 → take n xs ≡ []
none-taken n xs e = rw e refl

-- a part of a slice from a place's start on, as the borrow checker has it: given is where the code found the place
pub part_at : (whole : Bor (List ℕ)) (given place : PayloadPlace) (bytes : List ℕ) → given ≡ place
    → bytes ≡ take given.count (drop given.start whole.now)
    → PartAt whole place (record { ref_ptr = (whole.ref_ptr.0, given.start + whole.ref_ptr.1); now = bytes })
part_at whole given place bytes e are = rw (← e) (record { block = refl; offset = omega arith; bytes = are })

-- two parts of one slice at one place lie at one address and have the same bytes: "the payload's part of the store itself"
pub one-part : (whole : Bor (List ℕ)) (start count : ℕ) (part other : Bor (List ℕ)) → PartOf whole start count part → PartOf whole start count other
    → (part.ref_ptr ≡ other.ref_ptr) × (part.now ≡ other.now)
one-part whole start count part other p q = (
  ap (λ (block : ℕ). (block, part.ref_ptr.1)) (p.block ∙ sym q.block) ∙ ap (λ (offset : ℕ). (other.ref_ptr.0, offset)) (p.offset ∙ sym q.offset),
  p.bytes ∙ sym q.bytes,
)

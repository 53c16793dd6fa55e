-- "the payload's part of the store itself": a part of a slice, by where it lies in memory and by its bytes.
use Rattle.std.specs.Prelude.{ℕ, ◌+◌, ◌≡◌, List, take, drop}
use Rattle.std.specs.Borrow.{Bor}
use Rattle.payload.specs.declared.place.PayloadPlace.{PayloadPlace}

-- the part of a slice from a start on, with a count of bytes: it lies in the slice's own block of memory, so many bytes behind the
-- slice's first, and has the bytes that stand there
pub record PartOf (whole : Bor (List ℕ)) (start count : ℕ) (part : Bor (List ℕ)) : Type 0 where
  pub block : part.ref_ptr.0 ≡ whole.ref_ptr.0
  pub offset : part.ref_ptr.1 ≡ whole.ref_ptr.1 + start
  pub bytes : part.now ≡ take count (drop start whole.now)

-- the part at a place
abbrev pub PartAt : Bor (List ℕ) → PayloadPlace → Bor (List ℕ) → Type 0
PartAt whole place part = PartOf whole place.start place.count part

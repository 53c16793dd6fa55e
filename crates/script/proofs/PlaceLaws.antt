-- The place of a line's bytes, for each way out of the code. Assumes nothing.
use Prim.Native.Nat.{ℕ, ◌+◌, ◌-◌, ◌≤◌, ◌<◌}
use mathlib.Core.Path.{◌≡◌, refl}
use mathlib.Core.List.{List, []}
use native.Mathlib.Omega.{arith}
use lib.ListN.{length, take, drop, drop_of_length-le, length-take, length-drop}
use lib.Dec.{ltb}
use borrow.Author.Tests.{lt-ltb, le-ltb}
use Rattle.std.specs.Prelude.{Option, Some, None}
use Rattle.base.proofs.Tests.{cond_cases}
use Rattle.script_bytes.specs.declared.form.Form.{Form}
use Rattle.script_bytes.specs.Block.{form_of}
use Rattle.script.specs.declared.place.Place.{Place}
use Rattle.script.specs.Words.{word, word_at}
use Rattle.script.specs.Place.{place, block_at, last_block, part_at}
use Rattle.script.proofs.WordLaws.{word-part}

-- ---- the word at a position as the last of the line; r is the form of the part that the code has taken

pub block_none : (s : List ℕ) (at : ℕ) → length s < at → None ≡ last_block s at
unfolding last_block form_of word
block_none s at h = rw (drop_of_length-le s {i = at} (omega arith)) (cond_cases (λ (x : Option Place). None ≡ x) (ltb (at + 0) (length s)) _ _ (λ t. refl) (λ f. refl))

module _ (s : List ℕ) (from end : ℕ) (q : end ≡ from + length (word_at s from)) where
  pub block_more : end < length s → None ≡ last_block s from
  unfolding last_block
  block_more h = rw (← q, lt-ltb _ _ h)

  module _ (r : Option Form) (h : length s ≤ end) (e : r ≡ form_of (take (end - from) (drop from s))) where
    last : block_at r (place from end) ≡ last_block s from
    unfolding last_block
    last = rw (e, word-part s from end q, ← q, le-ltb _ _ h)

    pub no_form : r ≡ None → None ≡ last_block s from
    no_form f = rw f at last

    pub block_last : (form : Form) → r ≡ Some form → Some (place from end) ≡ last_block s from
    block_last form f = rw f at last

-- the part of a line at a place is no longer than the line
pub part-most : (s : List ℕ) (p : Place) → length (part_at s p) ≤ length s
unfolding part_at
part-most s p =
    cond_cases (λ (l : List ℕ). length l ≤ length s) (ltb p.to p.from) [] _ (λ t. omega arith)
    λ f. cond_cases (λ (l : List ℕ). length l ≤ length s) (ltb (length s) p.to) [] _ (λ t. omega arith)
    λ g. omega (arith, length-take (p.to - p.from) (drop p.from s), length-drop p.from s)

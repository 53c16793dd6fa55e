-- The bytes after a move down of bytes that lie in the store: those in front of its new end and those from there on; then a move
-- of the area behind it, and the clearing of the bytes between the new and the old end. Assumes nothing.
use mathlib.Core.Path.{◌≡◌, sym, ◌∙◌}
use mathlib.Core.List.{◌++◌, append_assoc}
use Prim.Native.Nat.{ℕ, ◌+◌, ◌-◌, ◌≤◌}
use native.Mathlib.Omega.{arith}
use lib.ListN.{length, take, drop, replicate, length-take, length-drop, length-append}
use lib.Seq.{take_at, take-add, drop-drop}
use Rattle.model.specs.State.{Store}
use Rattle.model.specs.Areas.{overwritten}
use Rattle.model.proofs.store.AreaLaws.{drop-overwritten}
use Rattle.store.specs.Positions.{cleared, moved_down}
use Rattle.store.proofs.PositionLaws.{length_part, cleared-inside, moved_inside, length_moved}

module _ (from to count : ℕ) (store : Store) (low : to ≤ from) (fits : from + count ≤ length store) where
  pub take-moved : take (to + count) (moved_down from to count store) ≡ take to store ++ take count (drop from store)
  unfolding overwritten
  take-moved = rw (moved_inside from to count store low fits, ← append_assoc)
      (take_at (take to store ++ take count (drop from store)) _ (to + count) (simp (length-append, length-take, length-drop) (omega arith)))

  pub drop-moved : (n : ℕ) → to + count ≤ n → n ≤ length store → drop n (moved_down from to count store) ≡ drop n store
  drop-moved n h within =
      rw (moved_inside from to count store low fits) (drop-overwritten to (take count (drop from store)) store n (rw (length_part from count store fits) h) within)

  -- the bytes between the new and the old end, cleared
  pub moved-then-cleared : cleared (to + count) (from + count) (moved_down from to count store)
      ≡ take to store ++ (take count (drop from store) ++ (replicate (from - to) 0 ++ drop (from + count) store))
  moved-then-cleared =
      let apart : from + count - (to + count) ≡ from - to = omega arith in
      let fits_moved : from + count ≤ length (moved_down from to count store) = rw length_moved fits in
      cleared-inside (to + count) (from + count) (moved_down from to count store) (omega arith) fits_moved
      ∙ rw (take-moved, drop-moved (from + count) (omega arith) fits, apart, append_assoc)

  -- two areas that lie back to back, moved one after the other, are moved as one
  pub moved_twice : (more : ℕ) → from + count + more ≤ length store
      → moved_down (from + count) (to + count) more (moved_down from to count store) ≡ moved_down from to (count + more) store
  unfolding overwritten
  moved_twice more enough =
      let once = moved_down from to count store in
      let second = length_part (from + count) more store enough in
      let both = length_part from (count + more) store (omega arith) in
      let end : to + (count + more) ≡ to + count + more = omega arith in
      let room : from + count + more ≤ length once = rw length_moved enough in
      moved_inside (from + count) (to + count) more once (omega arith) room
      ∙ rw (take-moved, drop-moved (from + count) (omega arith) fits, second, drop-moved (to + count + more) (omega arith) (omega arith))
      (sym
      (moved_inside from to (count + more) store low (omega arith)
      ∙ rw (both, end, take-add count more (drop from store), drop-drop count from store, append_assoc, append_assoc)))

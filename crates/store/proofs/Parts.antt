-- A part of the store that is lent and comes back with other bytes, as `borrow.Rule.Slice.PartMut` puts it back, or that the library copies. Assumes nothing.
use Prim.Native.Nat.{ℕ, ◌+◌, ◌-◌, ◌≤◌}
use mathlib.Core.Path.{◌≡◌, ◌∙◌}
use mathlib.Core.List.{List, append_assoc}
use native.Mathlib.Omega.{arith}
use lib.ListN.{length, take, drop, replicate}
use lib.Seq.{drop-drop}
use borrow.Rule.Slice.PartMut.{put_mid}
use Rattle.std.specs.List.{copy_within}
use Rattle.model.specs.State.{Store}
use Rattle.model.specs.Areas.{overwritten}
use Rattle.store.specs.Positions.{written, cleared, moved_down}
use Rattle.store.proofs.PositionLaws.{length_part, written-inside, cleared-inside, moved_inside}

-- every byte of the part from `from` up to `to` is 0
pub part-cleared : (from to : ℕ) (store : Store) (part : List ℕ) → from ≤ to → to ≤ length store
    → part ≡ replicate (length (take (to - from) (drop from store))) 0
    → put_mid from (to - from) store part ≡ cleared from to store
part-cleared from to store part h fits e =
    let end : from + (to - from) ≡ to = omega arith in
    rw (e, length_part from (to - from) store (omega arith), drop-drop (to - from) from store, end, cleared-inside from to store h fits)

-- a block stands in the part from `at` on that is as long as it
pub part-written : (at : ℕ) (block : List ℕ) (store : Store) (part : List ℕ) → at ≤ length store → length block ≤ length store - at
    → part ≡ block → put_mid at (at + length block - at) store part ≡ written at block store
unfolding overwritten
part-written at block store part h fits e =
    let n : at + length block - at ≡ length block = omega arith in
    rw (e, n, drop-drop (length block) at store, written-inside at block store (omega arith))

-- the library's copy of a part to a lower place
pub part-moved : (from to count end : ℕ) (store new : List ℕ) → to ≤ from → from + count ≤ length store → end ≡ from + count
    → new ≡ copy_within store from end to → new ≡ moved_down from to count store
unfolding overwritten
part-moved from to count end store new low fits up_to e =
    let n : end - from ≡ count = omega arith in
    e ∙ rw (n, moved_inside from to count store low fits, length_part from count store fits, append_assoc)

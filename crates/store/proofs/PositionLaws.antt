-- Bytes written, cleared and moved down by position: what each is where its part lies in the store, that the store stays as it was
-- where the part does not, and that its length stays in any case. Assumes nothing.
use mathlib.Core.Path.{◌≡◌, refl, sym, ◌∙◌}
use mathlib.Core.Bool.{◌&&◌}
use mathlib.Core.List.{List, ◌++◌}
use Prim.Native.Nat.{ℕ, ◌+◌, ◌-◌, ◌≤◌, ◌<◌}
use native.Mathlib.Omega.{arith}
use lib.Dec.{leb}
use lib.ListN.{length, take, drop, replicate, length-take, length-drop, length-replicate, take-append-drop}
use lib.Seq.{drop-drop}
use borrow.Author.Tests.{le-leb, lt-leb, leb-true}
use Rattle.base.proofs.Tests.{cond-true, cond-false, cond_cases, and_both, and_left, and_right}
use Rattle.model.specs.State.{Store}
use Rattle.model.specs.Areas.{overwritten}
use Rattle.model.proofs.store.StoreLength.{length-overwritten}
use Rattle.store.specs.Positions.{written, cleared, moved_down}

-- ---- a block

module _ (at : ℕ) (block : List ℕ) (store : Store) where
  pub written-inside : at + length block ≤ length store → written at block store ≡ overwritten at block store
  unfolding written
  written-inside h = cond-true _ _ (le-leb (at + length block) (length store) h)

  pub written-outside : length store < at + length block → store ≡ written at block store
  unfolding written
  written-outside h = sym (cond-false _ _ (lt-leb (at + length block) (length store) h))

  pub length-written : length (written at block store) ≡ length store
  unfolding written
  length-written =
      cond_cases (λ (bytes : Store). length bytes ≡ length store) (leb (at + length block) (length store)) _ _
      (λ h. length-overwritten at block store (leb-true (at + length block) (length store) h)) λ h. refl

-- ---- a part that lies in the store

module _ (at count : ℕ) (store : Store) (fits : at + count ≤ length store) where
  pub length_part : length (take count (drop at store)) ≡ count
  length_part = simp (length-take, length-drop) (omega arith)

  -- written where it stands it changes nothing
  part_stays : store ≡ overwritten at (take count (drop at store)) store
  unfolding overwritten
  part_stays = rw (length_part, ← drop-drop count at store, take-append-drop count (drop at store), take-append-drop at store)

-- ---- bytes cleared

module _ (from to : ℕ) (store : Store) where
  pub cleared-inside : from ≤ to → to ≤ length store → cleared from to store ≡ take from store ++ (replicate (to - from) 0 ++ drop to store)
  unfolding cleared overwritten
  cleared-inside h fits =
      let end : from + (to - from) ≡ to = omega arith in
      written-inside from (replicate (to - from) 0) store (rw length-replicate (omega arith))
      ∙ rw (length-replicate {A = ℕ} (to - from) 0, end)

  pub cleared-nothing : to ≤ from → store ≡ cleared from to store
  unfolding cleared written
  cleared-nothing h =
      let none : to - from ≡ 0 = omega arith in
      rw none
      (cond_cases (λ (bytes : Store). store ≡ bytes) (leb (from + 0) (length store)) _ _
      (λ h. part_stays from 0 store (leb-true (from + 0) (length store) h)) λ h. refl)

  pub cleared-outside : from ≤ to → length store < to → store ≡ cleared from to store
  unfolding cleared
  cleared-outside h long = written-outside from (replicate (to - from) 0) store (rw length-replicate (omega arith))

  pub length-cleared : length (cleared from to store) ≡ length store
  unfolding cleared
  length-cleared = length-written from (replicate (to - from) 0) store

-- ---- bytes moved down

module _ (from to count : ℕ) (store : Store) where
  pub moved_inside : to ≤ from → from + count ≤ length store → moved_down from to count store ≡ overwritten to (take count (drop from store)) store
  unfolding moved_down
  moved_inside h fits = cond-true _ _ (and_both (leb to from) (leb (from + count) (length store)) (le-leb to from h) (le-leb (from + count) (length store) fits))

  pub moved_nothing : from ≤ to → store ≡ moved_down from to count store
  unfolding moved_down
  moved_nothing h =
      let low = leb to from in
      let fits = leb (from + count) (length store) in
      cond_cases (λ (bytes : Store). store ≡ bytes) (low && fits) _ _
      (λ both. let down = leb-true to from (and_left low fits both) in
      let same : to ≡ from = omega (arith, h, down) in
      rw same (part_stays from count store (leb-true (from + count) (length store) (and_right low fits both))))
      λ h. refl

  pub moved-outside : to ≤ from → length store < from + count → store ≡ moved_down from to count store
  unfolding moved_down
  moved-outside h long = rw (le-leb to from h, lt-leb (from + count) (length store) long)

  pub length_moved : length (moved_down from to count store) ≡ length store
  unfolding moved_down
  length_moved =
      let low = leb to from in
      let fits = leb (from + count) (length store) in
      cond_cases (λ (bytes : Store). length bytes ≡ length store) (low && fits) _ _
      (λ h. let down = leb-true to from (and_left low fits h) in
      let inside = leb-true (from + count) (length store) (and_right low fits h) in
      length-overwritten to (take count (drop from store)) store (rw (length_part from count store inside) (omega arith)))
      λ h. refl

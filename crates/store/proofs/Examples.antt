-- Bytes written, cleared and moved down, computed at the ends of the store: the last position that is right and the first that is not.
-- Then three areas of 2, 3 and 2 bytes in a store of 8 of which the first is deleted, by two moves and a clear. Assumes nothing.
use mathlib.Core.Path.{◌≡◌, refl}
use mathlib.Core.Bool.{Bool, not}
use mathlib.Core.List.{List, [], ◌∷◌, ◌++◌}
use lib.Dec.{eqb}
use lib.ListN.{replicate}
use Rattle.base.specs.Quoted.{bytes}
use Rattle.model.specs.State.{Package, Store}
use Rattle.model.specs.Areas.{declared, overwritten, remaining, remaining_areas, deleted, new_package}
use Rattle.store.specs.Positions.{written, cleared, moved_down}

abbrev store : Store
store = bytes "abcdefgh"

-- the store after something is done to it
pub record Done : Type 0 where
  pub block-at-end : written 6 (bytes "XY") store ≡ bytes "abcdefXY"
  pub block-past-end : written 7 (bytes "XY") store ≡ store
  pub cleared-inside : cleared 2 4 store ≡ bytes "ab" ++ (replicate 2 0 ++ bytes "efgh")
  pub cleared-to-end : cleared 5 8 store ≡ bytes "abcde" ++ replicate 3 0
  pub cleared-past-end : cleared 5 9 store ≡ store
  pub cleared-backward : cleared 5 4 store ≡ store
  pub moved-from-end : moved_down 3 1 5 store ≡ bytes "adefghgh"
  pub moved-past-end : moved_down 3 1 6 store ≡ store
  pub moved_nowhere : moved_down 3 3 5 store ≡ store
  pub moved_up : moved_down 3 4 2 store ≡ store

pub done : Done
unfolding written cleared moved_down overwritten
done = record {
  block-at-end = refl;
  block-past-end = refl;
  cleared-inside = refl;
  cleared-to-end = refl;
  cleared-past-end = refl;
  cleared-backward = refl;
  moved-from-end = refl;
  moved-past-end = refl;
  moved_nowhere = refl;
  moved_up = refl;
}

abbrev packages : List Package
packages = new_package 1 2 ∷ new_package 2 3 ∷ new_package 3 2 ∷ []

abbrev not_first : Package → Bool
not_first p = not (eqb p.id 1)

pub moves-and-clear : cleared 5 7 (moved_down 5 3 2 (moved_down 2 0 3 store)) ≡ deleted not_first packages store
unfolding written cleared moved_down overwritten declared remaining remaining_areas deleted
moves-and-clear = refl

pub first-deleted : deleted not_first packages store ≡ bytes "cdefg" ++ (replicate 2 0 ++ bytes "h")
unfolding declared remaining remaining_areas deleted
first-deleted = refl

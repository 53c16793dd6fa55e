-- Compaction by one pass. "Deleting moves later areas down whole and fills the bytes between the new and the old end of the last area
-- with 0": the packages are passed in order, each area that is kept is moved down behind those kept before it, and at the end the
-- bytes from the new end up to the old one are cleared. Then the store is the model's `deleted`.
-- The invariant, in the form "what is left": deleting from the old store gives the bytes below `to` now, and behind them what deleting the
-- packages from i on makes of the bytes from `from` on. Assumes that the areas fit the store.
use mathlib.Core.Path.{◌≡◌, refl, sym, ap, ◌∙◌}
use mathlib.Core.Bool.{Bool, true, false}
use mathlib.Core.List.{List, [], ◌∷◌, ◌++◌, append_assoc}
use Prim.Native.Nat.{ℕ, ◌+◌, ◌-◌, ◌≤◌}
use native.Mathlib.Omega.{arith}
use lib.ListN.{length, take, drop, replicate}
use lib.Seq.{drop-drop}
use Rattle.model.specs.State.{Package, Store}
use Rattle.model.specs.Areas.{declared, remaining, remaining_areas, deleted}
use Rattle.model.proofs.soundness.Packages.{declared-kept}
use Rattle.store.specs.Positions.{cleared, moved_down}
use Rattle.store.proofs.PositionLaws.{cleared-inside, length_moved}
use Rattle.store.proofs.MoveLaws.{take-moved, drop-moved}

module _ (keeps : Package → Bool) where
  -- what deleting makes of the bytes from the first area on, where so many bytes in front of it are freed already
  unfoldable pub deleted_behind : ℕ → List Package → Store → Store
  deleted_behind freed ps bytes =
      remaining_areas keeps ps bytes
      ++ (replicate (freed + (declared ps - declared (remaining keeps ps))) 0 ++ drop (declared ps) bytes)

  -- an area that is kept goes in front; one that is not is freed
  behind-kept : (freed : ℕ) (p : Package) (ps : List Package) (bytes : Store) → keeps p ≡ true
      → deleted_behind freed (p ∷ ps) bytes ≡ take p.size bytes ++ deleted_behind freed ps (drop p.size bytes)
  unfolding deleted_behind declared remaining remaining_areas
  behind-kept freed p ps bytes k =
      let same : p.size + declared ps - (p.size + declared (remaining keeps ps)) ≡ declared ps - declared (remaining keeps ps) = omega arith in
      rw k (rw (same, append_assoc, drop-drop (declared ps) p.size bytes))

  behind-passed : (freed : ℕ) (p : Package) (ps : List Package) (bytes : Store) → keeps p ≡ false
      → deleted_behind freed (p ∷ ps) bytes ≡ deleted_behind (freed + p.size) ps (drop p.size bytes)
  unfolding deleted_behind declared remaining remaining_areas
  behind-passed freed p ps bytes k =
      let less : declared (remaining keeps ps) ≤ declared ps = declared-kept keeps ps in
      let more : freed + (p.size + declared ps - declared (remaining keeps ps)) ≡ freed + p.size + (declared ps - declared (remaining keeps ps)) = omega arith in
      rw k (rw (more, drop-drop (declared ps) p.size bytes))

  -- the packages before i are passed: their areas ended at `from`, and those of them that are kept end at `to` now
  pub record Compaction (ps : List Package) (store : Store) (i from to : ℕ) (now : Store) : Type 0 where
    pub low : to ≤ from
    pub fits : from + declared (drop i ps) ≤ length now
    pub long : length now ≡ length store
    pub left : deleted keeps ps store ≡ take to now ++ deleted_behind (from - to) (drop i ps) (drop from now)

module _ {keeps : Package → Bool} {ps : List Package} {store : Store} where
  pub compaction-begins : declared ps ≤ length store → Compaction keeps ps store 0 0 0 store
  unfolding deleted deleted_behind
  compaction-begins h =
      let freed = declared ps - declared (remaining keeps ps) in
      let none : 0 + freed ≡ freed = omega arith in
      record { low = omega arith; fits = omega arith; long = refl; left = rw none }

  module _ {i from to : ℕ} {now : Store} {p : Package} (at : drop i ps ≡ p ∷ drop (i + 1) ps) (c : Compaction keeps ps store i from to now) where
    -- the area of the package at i lies in the store
    pub compaction-fits : from + (p.size + declared (drop (i + 1) ps)) ≤ length now
    unfolding declared
    compaction-fits = rw at at c.fits

    -- a package that is not kept is passed
    pub compaction-passes : keeps p ≡ false → Compaction keeps ps store (i + 1) (from + p.size) to now
    compaction-passes k =
        let apart : from + p.size - to ≡ from - to + p.size = omega (arith, c.low) in
        record {
          low = omega (arith, c.low);
          fits = omega (arith, compaction-fits);
          long = c.long;
          left = c.left
              ∙ rw (at, behind-passed keeps (from - to) p (drop (i + 1) ps) (drop from now) k, apart, drop-drop p.size from now);
        }

    -- the area of a package that is kept is moved down
    pub compaction-moves : {after : Store} → after ≡ moved_down from to p.size now → keeps p ≡ true
        → Compaction keeps ps store (i + 1) (from + p.size) (to + p.size) after
    compaction-moves {after} e k =
        let size = p.size in
        let inside : from + size ≤ length now = omega (arith, compaction-fits) in
        let same-long : length after ≡ length now = ap length e ∙ length_moved from to size now in
        let apart : from + size - (to + size) ≡ from - to = omega arith in
        let front : take (to + size) after ≡ take to now ++ take size (drop from now) =
        ap (take (to + size)) e ∙ take-moved from to size now c.low inside in
        let behind : drop (from + size) after ≡ drop (from + size) now =
        ap (drop (from + size)) e ∙ drop-moved from to size now c.low inside (from + size) (omega (arith, c.low)) inside in
        record {
          low = omega (arith, c.low);
          fits = omega (arith, compaction-fits);
          long = same-long ∙ c.long;
          left = c.left
              ∙ rw (at, behind-kept keeps (from - to) p (drop (i + 1) ps) (drop from now) k, front, apart, behind, append_assoc, drop-drop p.size from now);
        }

  -- no package is left: the bytes from the new end up to the old one are cleared
  pub compaction-ends : {i from to : ℕ} {now after : Store} → drop i ps ≡ [] → Compaction keeps ps store i from to now
      → after ≡ cleared to from now → after ≡ deleted keeps ps store
  unfolding deleted_behind declared remaining remaining_areas
  compaction-ends {i} {from} {to} {now} end c e =
      let none : from - to + (0 - 0) ≡ from - to = omega arith in
      let inside : from ≤ length now = omega (arith, c.fits) in
      e ∙ cleared-inside to from now c.low inside ∙ sym (c.left ∙ rw (end, none))

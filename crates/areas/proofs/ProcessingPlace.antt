-- The place of the package that is processing: where one is, the search finds it, and the package there has the id that the model calls
-- `processing_id`. A search for that id finds the same place. Assumes nothing.
use Prim.Native.Nat.{ℕ, suc, ◌+◌, ◌≤◌}
use mathlib.Core.Path.{◌≡◌, refl, ap, ◌∙◌}
use mathlib.Core.Bool.{true}
use mathlib.Core.List.{List}
use native.Mathlib.Omega.{arith}
use lib.ListN.{length, get_or}
use Rattle.std.specs.Prelude.{None, Some, unwrap_or}
use Rattle.std.specs.List.{position_from}
use Rattle.place_in_list.specs.Place.{Found}
use Rattle.place_in_list.proofs.Placed.{holds-at-place, holds-where-none, placed-in}
use Rattle.model.specs.State.{Package}
use Rattle.model.specs.Areas.{is_being_processed, count_in, processing_id}
use Rattle.model.specs.Sound.{packages_rise}
use Rattle.model.proofs.store.PackageAtIndex.{FirstAt, here, there, rising-at}
use Rattle.areas.specs.Place.{has_id, place_of, in_processing, processing_place}

none-counted : (ps : List Package) → position_from in_processing 0 ps ≡ None → count_in is_being_processed ps ≡ 0
unfolding count_in
none-counted ps e = holds-where-none in_processing (λ ps. count_in is_being_processed ps ≡ 0) refl (λ p ps b n. rw (b, n)) 0 ps e

processing-at : (ps : List Package) → 1 ≤ count_in is_being_processed ps → position_from in_processing 0 ps ≡ Some (processing_place ps)
unfolding processing_place
processing-at ps n = go (position_from in_processing 0 ps) refl
  where
    go : (r : Found) → position_from in_processing 0 ps ≡ r → r ≡ Some (unwrap_or r (length ps))
    go (Some i) e = refl
    go None e = absurd (omega (arith, none-counted ps e))

place-id : (ps : List Package) (i : ℕ) (d : Package) → position_from in_processing 0 ps ≡ Some i → (get_or ps i d).id ≡ processing_id ps
unfolding processing_id
place-id ps i d e = holds-at-place in_processing (λ ps i. (get_or ps i d).id ≡ processing_id ps) (λ p ps b. rw b) (λ p ps i b same. rw b same) ps i e

-- the first package with an id is the one that a search finds; k is the place of the list's first
first-placed : {id : ℕ} {ps : List Package} {i : ℕ} (k : ℕ) → FirstAt id ps i → position_from (has_id id) k ps ≡ Some (k + i)
first-placed k (here b) = let same : k ≡ k + 0 = omega arith in rw b (ap Some same)
first-placed {i = suc i} k (there b f) = let same : k + 1 + i ≡ k + suc i = omega arith in rw b (first-placed (k + 1) f ∙ ap Some same)

pub place_found : (next : ℕ) (ps : List Package) (d : Package) → packages_rise 0 next ps ≡ true → 1 ≤ count_in is_being_processed ps
    → place_of (processing_id ps) ps ≡ Some (processing_place ps)
unfolding place_of
place_found next ps d rise n =
    let i = processing_place ps in
    let at = processing-at ps n in
    let same : 0 + i ≡ i = omega arith in
    first-placed 0 (rising-at (processing_id ps) 0 next ps i d rise (placed-in in_processing ps i at).below (place-id ps i d at)) ∙ ap Some same

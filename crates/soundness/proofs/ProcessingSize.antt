-- The size of the package that is processing, by the place that the search gives; where none is processing it is 0. Assumes nothing.
use Prim.Native.Nat.{ℕ, ◌≤◌, ◌<◌}
use mathlib.Core.Path.{◌≡◌, refl, sym, ap, ◌∙◌}
use mathlib.Core.Bool.{true}
use mathlib.Core.List.{List}
use native.Mathlib.Omega.{arith}
use lib.ListN.{length, get_or}
use Rattle.std.specs.Prelude.{None, Some, unwrap_or}
use Rattle.std.specs.List.{position_from}
use Rattle.place_in_list.specs.Place.{Found}
use Rattle.place_in_list.proofs.Placed.{holds-at-place, holds-where-none, placed-in}
use Rattle.model.specs.State.{Package}
use Rattle.model.specs.Areas.{package_of, processing_id}
use Rattle.model.specs.Sound.{packages_most, packages_rise}
use Rattle.model.proofs.soundness.OfProcessing.{of_processing}
use Rattle.model.proofs.soundness.ProcessingPackage.{processing_size, processing-size}
use Rattle.state.specs.declared.transfers.Transfers.{Transfers}
use Rattle.state.specs.View.{cleared_package, view_package, view_packages}
use Rattle.state.proofs.PackagesAlong.{packages-length, package-at}
use Rattle.areas.specs.Place.{in_processing, processing_place}

size-at : (ps : List Package) (i : ℕ) (d : Package) → position_from in_processing 0 ps ≡ Some i → (get_or ps i d).size ≡ processing_size ps
unfolding of_processing
size-at ps i d e = holds-at-place in_processing (λ ps i. (get_or ps i d).size ≡ processing_size ps) (λ p ps b. rw b) (λ p ps i b same. rw b same) ps i e

size_none : (ps : List Package) → position_from in_processing 0 ps ≡ None → processing_size ps ≡ 0
unfolding of_processing
size_none ps e = holds-where-none in_processing (λ ps. processing_size ps ≡ 0) refl (λ p ps b none. rw b none) 0 ps e

by_answer : (ps : List Package) (i : ℕ) (d : Package) (r : Found) → position_from in_processing 0 ps ≡ r → i ≡ unwrap_or r (length ps)
    → (i < length ps → (get_or ps i d).size ≡ processing_size ps) × (length ps ≤ i → processing_size ps ≡ 0)
by_answer ps i d (Some j) e same =
    (λ below. rw same (size-at ps j d e), λ past. absurd (omega (arith, (placed-in in_processing ps j e).below)))
by_answer ps i d None e same = (λ below. absurd (omega arith), λ past. size_none ps e)

-- i is what `processing_place` gave
module _ (t : Transfers) (few : t.count ≤ packages_most) (long : length t.packages ≡ packages_most)
    (rise : packages_rise 0 t.next (view_packages t) ≡ true) (i : ℕ) (place : i ≡ processing_place (view_packages t)) where
  abbrev size : ℕ
  size = (package_of (processing_id (view_packages t)) (view_packages t)).size

  answer : (i < length (view_packages t) → (get_or (view_packages t) i (view_package cleared_package)).size ≡ processing_size (view_packages t))
      × (length (view_packages t) ≤ i → processing_size (view_packages t) ≡ 0)
  unfolding processing_place
  answer = by_answer (view_packages t) i (view_package cleared_package) (position_from in_processing 0 (view_packages t)) refl place

  pub size-there : i < t.count → (get_or t.packages i cleared_package).size ≡ size
  size-there below =
      ap (λ (p : Package). p.size) (sym (package-at t few long i below))
      ∙ answer.0 (rw (packages-length t few long) below)
      ∙ sym (processing-size 0 t.next (view_packages t) rise)

  pub no_size : t.count ≤ i → 0 ≡ size
  no_size past = sym (processing-size 0 t.next (view_packages t) rise ∙ answer.1 (rw (packages-length t few long) past))

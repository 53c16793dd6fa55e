-- The package that is processing: it is found by its id, and its size is the one that is looked up. Assumes nothing.
use mathlib.Core.Path.{◌≡◌, refl, ap, ◌∙◌}
use mathlib.Core.Bool.{true, false}
use mathlib.Core.List.{List, [], ◌∷◌}
use mathlib.Core.Option.{some}
use Prim.Native.Nat.{ℕ, ◌+◌, ◌≤◌, ◌<◌}
use native.Mathlib.Omega.{arith}
use lib.Dec.{eqb}
use borrow.Author.Tests.{eq-eqb, ne_eqb}
use Rattle.base.proofs.Tests.{bool_cases}
use Rattle.model.specs.State.{Package}
use Rattle.model.specs.Areas.{find, package_of, is_being_processed, count_in, processing_id}
use Rattle.model.specs.Sound.{packages_rise}
use Rattle.model.proofs.soundness.SoundFacts.{rises-says}
use Rattle.model.proofs.soundness.OfProcessing.{of_processing}
use Rattle.model.proofs.soundness.Packages.{found-above}

-- ---- the size of the package that is processing

abbrev pub size_of : Package → ℕ
size_of p = p.size

abbrev pub processing_size : List Package → ℕ
processing_size ps = of_processing size_of ps

-- the id of the package that is processing is that of a package, or 0
pub processing-low : (last next : ℕ) (ps : List Package) → last < next → packages_rise last next ps ≡ true → processing_id ps < next
unfolding processing_id
processing-low last next [] l h = omega arith
processing-low last next (p ∷ ps) l h =
    let r = rises-says last next p ps h in
    let ih = processing-low p.id next ps r.below r.rest in
    bool_cases (is_being_processed p.state) (λ b. rw b r.below) λ b. rw b ih

-- the package that is processing
pub record ProcessingPackage (ps : List Package) : Type 0 where
  pub found : Package
  pub here : find (processing_id ps) ps ≡ some found
  pub being : is_being_processed found.state ≡ true

processing-behind : (p : Package) (ps : List Package) → is_being_processed p.state ≡ false → p.id < processing_id ps → ProcessingPackage ps
    → ProcessingPackage (p ∷ ps)
unfolding processing_id find
processing-behind p ps b l w =
    let same : processing_id (p ∷ ps) ≡ processing_id ps = rw b in
    let behind : find (processing_id ps) (p ∷ ps) ≡ find (processing_id ps) ps = rw (ne_eqb (processing_id ps) p.id λ z. omega arith) in
    record { found = w.found; here = ap (λ (id : ℕ). find id (p ∷ ps)) same ∙ behind ∙ w.here; being = w.being }

pub processing-found : (last next : ℕ) (ps : List Package) → packages_rise last next ps ≡ true → 1 ≤ count_in is_being_processed ps
    → ProcessingPackage ps
unfolding processing_id find count_in
processing-found last next [] h n = absurd (omega arith)
processing-found last next (p ∷ ps) h n =
    let r = rises-says last next p ps h in
    let ih : 1 ≤ count_in is_being_processed ps → ProcessingPackage ps = processing-found p.id next ps r.rest in
    bool_cases (is_being_processed p.state)
    (λ b. record { found = p; here = rw b (rw (eq-eqb p.id p.id refl)); being = b })
    λ b. let later : 1 ≤ 0 + count_in is_being_processed ps = rw b at n in
    let w = ih (omega arith) in
    processing-behind p ps b (found-above p.id next (processing_id ps) ps w.found r.rest w.here) w

processing-other : (last next id : ℕ) (ps : List Package) → 1 ≤ id → id ≤ last → packages_rise last next ps ≡ true
    → eqb (processing_id ps) id ≡ false
unfolding processing_id
processing-other last next id [] o l h = ne_eqb 0 id λ z. omega arith
processing-other last next id (p ∷ ps) o l h =
    let r = rises-says last next p ps h in
    let ih = processing-other p.id next id ps o (omega (arith, r.over)) r.rest in
    bool_cases (is_being_processed p.state) (λ b. rw b (ne_eqb p.id id λ z. omega (arith, r.over))) λ b. rw b ih

-- it is the size that the definitions look up by the id
pub processing-size : (last next : ℕ) (ps : List Package) → packages_rise last next ps ≡ true
    → (package_of (processing_id ps) ps).size ≡ processing_size ps
unfolding processing_id package_of find of_processing
processing-size last next [] h = refl
processing-size last next (p ∷ ps) h =
    let r = rises-says last next p ps h in
    let ih = processing-size p.id next ps r.rest in
    bool_cases (is_being_processed p.state) (λ b. rw b (rw (eq-eqb p.id p.id refl, package_of)))
    λ b. rw b (rw (processing-other p.id next p.id ps (omega (arith, r.over)) (omega arith) r.rest, package_of) ih)

-- One package of the list: it is decided by itself and by the end of its area, and those behind it from there on. Assumes nothing.
use Prim.Native.Nat.{ℕ, ◌+◌, ◌≤◌}
use mathlib.Core.Path.{◌≡◌, sym, ap, ◌∙◌}
use mathlib.Core.Bool.{Bool, true, false, not, ◌&&◌}
use mathlib.Core.List.{List, [], ◌∷◌}
use native.Mathlib.Omega.{arith}
use lib.Dec.{leb, ltb}
use borrow.Author.Tests.{leb-true, leb-false, le-leb, lt-leb, not-true, not-false}
use Rattle.base.proofs.Tests.{and_right, bool_cases}
use Rattle.model.specs.State.{Package}
use Rattle.model.specs.Areas.{declared}
use Rattle.model.specs.Sound.{package_sound, packages_rise}
use Rattle.soundness.proofs.Order.{area-first}

-- the packages rise above `last` and are sound, and their areas from `start` on end within a store of a length
abbrev pub rise_and_fit : ℕ → ℕ → ℕ → ℕ → List Package → Bool
rise_and_fit last next start room ps = packages_rise last next ps && leb (start + declared ps) room

pub all-packages : (next room : ℕ) (ps : List Package) → packages_rise 0 next ps && leb (declared ps) room ≡ rise_and_fit 0 next 0 room ps
all-packages next room ps = let e : declared ps ≡ 0 + declared ps = omega arith in ap (λ (n : ℕ). packages_rise 0 next ps && leb n room) e

pub no-package : (last next start room : ℕ) → start ≤ room → true ≡ rise_and_fit last next start room []
unfolding packages_rise declared
no-package last next start room h = sym (le-leb (start + 0) room (omega arith))

module _ (last next start room : ℕ) (p : Package) (ps : List Package) where
  -- areas that fit end within the store, the first of them too
  first_fits : leb (start + (p.size + declared ps)) room ≡ leb (start + p.size) room && leb (start + p.size + declared ps) room
  first_fits =
      let e : start + (p.size + declared ps) ≡ start + p.size + declared ps = omega arith in
      ap (λ (n : ℕ). leb n room) e
      ∙ bool_cases (leb (start + p.size) room) (λ h. rw h)
      λ h. rw h (lt-leb (start + p.size + declared ps) room (omega (arith, leb-false (start + p.size) room h)))

  one-package : rise_and_fit last next start room (p ∷ ps)
      ≡ (ltb last p.id && (ltb p.id next && (package_sound p && leb (start + p.size) room))) && rise_and_fit p.id next (start + p.size) room ps
  unfolding packages_rise declared
  one-package =
      ap (λ (fits : Bool). packages_rise last next (p ∷ ps) && fits) first_fits
      ∙ area-first (ltb last p.id) (ltb p.id next) (package_sound p) (packages_rise p.id next ps) (leb (start + p.size) room) _

  -- `whole` is what is asked of all packages, and own what package_sound answers of this one
  module _ (whole own : Bool) (so_far : whole ≡ rise_and_fit last next start room (p ∷ ps)) (told : own ≡ package_sound p) where
    abbrev rises : Bool
    rises = ltb last p.id && (ltb p.id next && (own && leb (start + p.size) room))

    here : whole ≡ rises && rise_and_fit p.id next (start + p.size) room ps
    here = rw told (so_far ∙ one-package)

    pub stops : not rises ≡ true → false ≡ whole
    stops h = sym (here ∙ rw (not-true rises h))

    pub goes_on : not rises ≡ false → whole ≡ rise_and_fit p.id next (start + p.size) room ps
    goes_on h = here ∙ rw (not-false rises h)

    pub ends-within : not rises ≡ false → start + p.size ≤ room
    ends-within h =
        let below = and_right (ltb last p.id) _ (not-false rises h) in
        leb-true _ _ (and_right own _ (and_right (ltb p.id next) _ below))

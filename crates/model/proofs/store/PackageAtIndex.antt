-- What the index of a package says: what is found by its id, where its area starts, and the packages with it changed. Assumes nothing.
use mathlib.Core.Path.{◌≡◌, refl, sym, ap}
use mathlib.Core.Bool.{true, false}
use mathlib.Core.List.{List, [], ◌∷◌}
use mathlib.Core.Option.{none, some}
use Prim.Native.Nat.{ℕ, zero, suc, ◌+◌, ◌<◌}
use native.Mathlib.Omega.{arith}
use lib.Dec.{eqb}
use lib.ListN.{length, take, get_or, set}
use borrow.Author.Tests.{eq-eqb, ne_eqb}
use Rattle.model.specs.State.{Package}
use Rattle.model.specs.Areas.{declared, find, area_start, changed}
use Rattle.model.specs.Sound.{packages_rise}
use Rattle.model.proofs.soundness.SoundFacts.{rises-says}

-- the first package with an id stands at an index
pub data FirstAt (id : ℕ) : List Package → ℕ → Type 0 where
  here : {p : Package} {ps : List Package} → eqb id p.id ≡ true → FirstAt id (p ∷ ps) 0
  there : {p : Package} {ps : List Package} {i : ℕ} → eqb id p.id ≡ false → FirstAt id ps i → FirstAt id (p ∷ ps) (suc i)

-- ---- what it says

pub first_below : {id : ℕ} {ps : List Package} {i : ℕ} → FirstAt id ps i → i < length ps
first_below (here b) = omega arith
first_below (there b f) = let ih = first_below f in omega arith

pub first_found : {id : ℕ} {ps : List Package} {i : ℕ} → FirstAt id ps i → (d : Package) → find id ps ≡ some (get_or ps i d)
unfolding find
first_found (here b) d = rw b
first_found (there b f) d = rw b (first_found f d)

pub first-start : {id : ℕ} {ps : List Package} {i : ℕ} → FirstAt id ps i → area_start id ps ≡ declared (take i ps)
unfolding area_start declared
first-start (here b) = rw b
first-start (there {p} b f) = rw b (ap (λ (n : ℕ). p.size + n) (first-start f))

pub first-changed : {id : ℕ} {ps : List Package} {i : ℕ} → FirstAt id ps i → (change : Package → Package) (d : Package)
    → changed id change ps ≡ set ps i (change (get_or ps i d))
unfolding changed
first-changed (here b) change d = rw b
first-changed (there {p} b f) change d = rw b (ap (λ (l : List Package). p ∷ l) (first-changed f change d))

-- ---- where it holds

-- no package before the index has the id
pub first-at : (id : ℕ) (ps : List Package) (i : ℕ) (d : Package) → i < length ps → (get_or ps i d).id ≡ id
    → ((j : ℕ) → j < i → (get_or ps j d).id ≡ id → ⊥) → FirstAt id ps i
first-at id [] i d l e n = absurd (omega arith)
first-at id (p ∷ ps) zero d l e n = here (eq-eqb _ _ (sym e))
first-at id (p ∷ ps) (suc i) d l e n =
    there (ne_eqb _ _ λ s. n 0 (omega arith) (sym s)) (first-at id ps i d (omega arith) e λ j k. n (suc j) (omega arith))

-- ids rise, so the id stands nowhere else
above-last : (last next : ℕ) (ps : List Package) (i : ℕ) (d : Package) → packages_rise last next ps ≡ true → i < length ps
    → last < (get_or ps i d).id
above-last last next [] i d h l = absurd (omega arith)
above-last last next (p ∷ ps) zero d h l = (rises-says last next p ps h).over
above-last last next (p ∷ ps) (suc i) d h l =
    let r = rises-says last next p ps h in
    omega (arith, r.over, above-last p.id next ps i d r.rest (omega arith))

pub rising-at : (id last next : ℕ) (ps : List Package) (i : ℕ) (d : Package) → packages_rise last next ps ≡ true → i < length ps
    → (get_or ps i d).id ≡ id → FirstAt id ps i
rising-at id last next [] i d h l e = absurd (omega arith)
rising-at id last next (p ∷ ps) zero d h l e = here (eq-eqb _ _ (sym e))
rising-at id last next (p ∷ ps) (suc i) d h l e =
    let r = rises-says last next p ps h in
    let above : p.id < (get_or ps i d).id = above-last p.id next ps i d r.rest (omega arith) in
    let same : (get_or ps i d).id ≡ id = e in
    there (ne_eqb id p.id λ s. omega (arith, above, same, s))
    (rising-at id p.id next ps i d r.rest (omega arith) e)

-- no package has the id
pub none-at : (id : ℕ) (ps : List Package) (d : Package) → ((j : ℕ) → j < length ps → (get_or ps j d).id ≡ id → ⊥) → find id ps ≡ none
unfolding find
none-at id [] d n = refl
none-at id (p ∷ ps) d n =
    rw (ne_eqb id p.id λ s. n 0 (omega arith) (sym s)) (none-at id ps d λ j k. n (suc j) (omega arith))

-- What a search for the package with an id says to a call on a sound state. Where it finds nothing the id is unknown. Where it finds a
-- place, the model's package with the id is the one there, and its area lies in the store and has the model's bytes. Where it answers a
-- number the call is refused by it. Assumes nothing.
use Prim.Native.Nat.{ℕ, ◌+◌, ◌-◌, ◌≤◌, ◌<◌}
use mathlib.Core.Path.{◌≡◌, refl, sym, ap, ◌∙◌}
use mathlib.Core.Bool.{Bool, true, false, cond, ◌&&◌}
use mathlib.Core.List.{List, [], ◌∷◌}
use mathlib.Core.Option.{none, some}
use native.Mathlib.Omega.{arith}
use lib.Dec.{eqb}
use lib.ListN.{length, take, drop}
use borrow.Author.Tests.{le-leb, leb-true}
use Rattle.base.specs.Refusals.{Refusal, refuse◌when◌, first_refusal}
use Rattle.base.proofs.Tests.{bool_cases, none-some}
use Rattle.base.proofs.RefusalNumbers.{first-stop, first-on, first-none}
use Rattle.refusal.specs.declared.Refusal as refusals
use Rattle.refusal.specs.declared.Refusal.TheVariants.{InvalidTransferId}
use Rattle.refusal.specs.Number.{number_of, refused_with}
use Rattle.std.specs.Prelude.{Option, None, Some, Result, Ok, Err, IfOk}
use Rattle.std.specs.Option.{ok_or}
use Rattle.std.proofs.lemmas.Result.{IfOk-at_ok}
use Rattle.std.specs.List.{position_from}
use Rattle.place_in_list.specs.Place.{Found, found_in}
use Rattle.place_in_list.proofs.Placed as placed
use Rattle.place_in_list.proofs.Placed.{holds-at-place, place-in-map}
use Rattle.model.specs.State as model
use Rattle.model.specs.State.{Store, is_processing}
use Rattle.model.specs.Calls.{Call, call_number}
use Rattle.model.specs.Permissions.{allowed}
use Rattle.model.specs.Areas.{declared, find, area_start, area_of, is_transferring}
use Rattle.model.specs.Sound.{packages_most, received_sound, sound}
use Rattle.model.specs.Step.{unknown, own_refusals, further_refusals}
use Rattle.model.proofs.soundness.Accepted.{first-passed}
use Rattle.model.proofs.soundness.SoundFacts.{sound-says}
use Rattle.model.proofs.soundness.Packages.{found-fine, found-known}
use Rattle.model.proofs.soundness.FinePackage.{part, whole}
use Rattle.model.proofs.store.AreaStart.{area-inside, area-at-start}
use Rattle.model.proofs.store.PackageAtIndex.{FirstAt, here, there, first_below, first_found, first-start}
use Rattle.state.specs.declared.answer.Answer.{Answer}
use Rattle.state.specs.declared.answer.Answered.{Answered}
use Rattle.state.specs.declared.package.Package.{Package}
use Rattle.state.specs.declared.transfers.Transfers.{Transfers}
use Rattle.state.specs.declared.state.State.{State}
use Rattle.state.specs.View.{view_package, cleared_package, view_packages, view_phase, view_state}
use Rattle.state.specs.Permissions.{allowed_number}
use Rattle.state.specs.Outcome.{Outcome, outcome, refused_by, settled, called_on_sound}
use Rattle.state.proofs.Views.{packages-fit, packages-few}
use Rattle.state.proofs.Ways.{refuse-by, pass-first, pass-permitted}
use Rattle.areas.specs.Place.{has_id, place_of}
use Rattle.areas.specs.Named.{named_refusals}
use Rattle.areas.specs.Inside.{AreaInside}
use Rattle.areas.specs.Changed.{package_at}
use Rattle.state.proofs.PackagesAlong.{packages-length, package-at}

-- of a sound state the count of the packages fits
pub count_fits : (s : State) (store : Store) → sound (view_state s) store ≡ true → s.transfers.count ≤ packages_most
count_fits s store ok = leb-true _ _ (sym (packages-fit s.transfers) ∙ le-leb _ _ (sound-says (view_state s) store ok).few)

-- and the areas fit the store
pub areas-fit : (s : State) (store : Store) → sound (view_state s) store ≡ true
    → (s.transfers.count ≤ packages_most) × (declared (view_packages s.transfers) ≤ length store)
areas-fit s store ok = (count_fits s store ok, (sound-says (view_state s) store ok).fit)

-- ---- the search

-- the place among the packages that count is the place in their list
pub place-in-view : (test : model.Package → Bool) (t : Transfers) → t.count ≤ packages_most
    → position_from (λ (p : Package). test (view_package p)) 0 (take t.count t.packages) ≡ position_from test 0 (view_packages t)
place-in-view test t few = sym (ap (position_from test 0) (packages-few t few) ∙ place-in-map view_package test 0 (take t.count t.packages))

-- a place that is found is that of the first with the id
pub place-first : (id : ℕ) (ps : List model.Package) (i : ℕ) → place_of id ps ≡ Some i → FirstAt id ps i
unfolding place_of
place-first id ps i e = holds-at-place (has_id id) (FirstAt id) (λ p ps b. here b) (λ p ps i b f. there b f) ps i e

finds-none : (id : ℕ) → find id [] ≡ none
unfolding find
finds-none id = refl

finds-first : (id : ℕ) (p : model.Package) (ps : List model.Package) → find id (p ∷ ps) ≡ cond (has_id id p) (some p) (find id ps)
unfolding find
finds-first id p ps = refl

-- the search finds what the definition finds: r is what the search gave
pub found-is : (id : ℕ) (ps : List model.Package) (r : Found) → r ≡ position_from (has_id id) 0 ps → found_in ps r ≡ find id ps
found-is id ps r e = placed.found-is (has_id id) (find id) (finds-none id) (finds-first id) ps r e

-- where nothing is found no package has the id
pub nothing-found : (id : ℕ) (ps : List model.Package) → place_of id ps ≡ None → find id ps ≡ none
unfolding place_of
nothing-found id ps e = sym (found-is id ps None (sym e))

-- "4. InvalidTransferId: no package has the id": r is what `find` gave
pub nothing-unknown : (r : Found) (id : ℕ) (ps : List model.Package) → r ≡ place_of id ps → r ≡ None → unknown id ps ≡ true
nothing-unknown r id ps e f = rw (unknown, nothing-found id ps (sym e ∙ f))

-- where a place is found it is that of the package, and the id is known
module _ (r : Found) (id i : ℕ) (ps : List model.Package) (e : r ≡ place_of id ps) (f : r ≡ Some i) where
  pub place-of-found : place_of id ps ≡ Some i
  place-of-found = sym e ∙ f

  pub place-known : unknown id ps ≡ false
  place-known = found-known id ps _ (first_found (place-first id ps i place-of-found) (view_package cleared_package))

-- ---- a package found

-- what the packages alone say of the one at the place i that was found
pub record PlacedAt (t : Transfers) (store : Store) (id i : ℕ) : Type 0 where
  pub below : i < t.count
  pub known : find id (view_packages t) ≡ some (view_package (package_at t i))
  pub start : area_start id (view_packages t) ≡ declared (take i (view_packages t))
  pub area : declared (take i (view_packages t)) + (package_at t i).size ≤ length store

-- r is what `find` gave
pub placed_at : (t : Transfers) (store : Store) (id i : ℕ) (r : Found) → t.count ≤ packages_most → length t.packages ≡ packages_most
    → declared (view_packages t) ≤ length store → r ≡ place_of id (view_packages t) → r ≡ Some i → PlacedAt t store id i
placed_at t store id i r few long fit e f =
    let ps = view_packages t in
    let p = view_package (package_at t i) in
    let first = place-first id ps i (sym e ∙ f) in
    let below : i < t.count = omega (arith, first_below first, packages-length t few long) in
    let known : find id ps ≡ some p = first_found first (view_package cleared_package) ∙ ap some (package-at t few long i below) in
    record {
      below = below;
      known = known;
      start = first-start first;
      area = omega (arith, area-inside id ps p known, first-start first);
    }

-- the bytes from the area's start up to its end
pub area-bytes : (t : Transfers) (store : Store) (id i at : ℕ) → PlacedAt t store id i → at ≡ declared (take i (view_packages t))
    → take (at + (package_at t i).size - at) (drop at store) ≡ area_of id (view_packages t) store
area-bytes t store id i at p e =
    let size : at + (package_at t i).size - at ≡ (package_at t i).size = omega arith in
    rw (size, area-at-start id (view_packages t) (view_package (package_at t i)) store p.known, p.start, e)

received-within : (p : model.Package) → received_sound p ≡ true → p.received ≤ p.size
received-within p h = bool_cases (is_transferring p.state) (λ b. part p b h) λ b. omega (arith, whole p b h)

-- what a call may go by that found its package at the place i
pub record FoundAt (s : State) (store : Store) (id i : ℕ) : Type 0 where
  pub inside : AreaInside s.transfers i (package_at s.transfers i) (length store)
  pub place : place_of id (view_packages s.transfers) ≡ Some i
  pub known : find id (view_packages s.transfers) ≡ some (view_package (package_at s.transfers i))
  pub start : area_start id (view_packages s.transfers) ≡ declared (take i (view_packages s.transfers))
  pub received : (package_at s.transfers i).received ≤ (package_at s.transfers i).size
  pub blocks : (package_at s.transfers i).blocks ≤ (package_at s.transfers i).received

-- r is what `find` gave
pub found_at : (s : State) (store : Store) (id i : ℕ) (r : Found) → sound (view_state s) store ≡ true
    → length s.transfers.packages ≡ packages_most → r ≡ place_of id (view_packages s.transfers) → r ≡ Some i → FoundAt s store id i
found_at s store id i r ok long e f =
    let t = s.transfers in
    let p = view_package (package_at t i) in
    let facts = sound-says (view_state s) store ok in
    let few = count_fits s store ok in
    let placed = placed_at t store id i r few long facts.fit e f in
    let fine = found-fine 0 t.next id (view_packages t) p facts.rise placed.known in
    record {
      inside = record { few = few; below = placed.below; area = placed.area; room = facts.room };
      place = sym e ∙ f;
      known = placed.known;
      start = placed.start;
      received = received-within p fine.received;
      blocks = fine.blocks;
    }

-- ---- a package named

-- what is found, or refused by 4: o is what `find` gave, behind a permission that is not refused
pub named-refused : (o : Option ℕ) (id : ℕ) (ps : List model.Package) (unpermitted : Bool) (r : Result ℕ refusals.Refusal) → unpermitted ≡ false
    → o ≡ place_of id ps → r ≡ ok_or o InvalidTransferId
    → refused_with r ≡ first_refusal ((refuse 3 when unpermitted) ∷ (refuse 4 when unknown id ps) ∷ [])
named-refused None id ps unpermitted r on e f =
    rw f (first-on (some 4) 3 unpermitted _ on (first-stop 4 _ [] (nothing-unknown None id ps e refl)))
named-refused (Some i) id ps unpermitted r on e f =
    rw f (first-on none 3 unpermitted _ on (first-on none 4 _ [] (place-known (Some i) id i ps e refl) first-none))

pub named-placed : (o : Option ℕ) (id : ℕ) (ps : List model.Package) (r : Result ℕ refusals.Refusal) → o ≡ place_of id ps
    → r ≡ ok_or o InvalidTransferId → IfOk r (λ i. place_of id ps ≡ Some i)
named-placed None id ps r e f = rw f tt
named-placed (Some i) id ps r e f = rw f (sym e)

-- one of the first two that applies is the first of the whole list
first_two : (unpermitted unnamed : Bool) (rest : List Refusal) (n : ℕ)
    → some n ≡ first_refusal ((refuse 3 when unpermitted) ∷ (refuse 4 when unnamed) ∷ [])
    → some n ≡ first_refusal ((refuse 3 when unpermitted) ∷ (refuse 4 when unnamed) ∷ rest)
unfolding first_refusal
first_two true unnamed rest n e = e
first_two false true rest n e = e
first_two false false rest n e = none-some (sym e)

-- r is what was found for a call that is not busy
module _ (s : State) (store : Store) (call : Call) (o : Outcome) (id : ℕ) (r : Result ℕ refusals.Refusal)
    (free : eqb (call_number call) 4 && is_processing (view_phase s.phase) ≡ false)
    (e : refused_with r ≡ first_refusal (named_refusals (view_phase s.phase) (view_packages s.transfers) (call_number call) id)) where
  -- a call whose own refusals begin with 4 is refused by it
  pub refuse-named : (rest : List Refusal) (refusal : refusals.Refusal) (a : Answered Answer)
      → own_refusals (view_state s) store call ≡ (refuse 4 when unknown id (view_packages s.transfers)) ∷ rest
      → r ≡ Err refusal → a ≡ refused_by s (number_of refusal) → outcome a store ≡ called_on_sound s store call o
  unfolding called_on_sound further_refusals allowed allowed_number
  refuse-named rest refusal a own f g =
      pass-first s store 2 _ _ o _ free (rw own (refuse-by s store _ (number_of refusal) a o (first_two _ _ rest (number_of refusal) (rw f at e)) g))

  pub pass-named : (i : ℕ) (given : Outcome) → r ≡ Ok i → given ≡ settled s store (first_refusal (own_refusals (view_state s) store call)) o
      → given ≡ called_on_sound s store call o
  pass-named i given f g = pass-permitted s store call o _ free refl given (first-passed _ _ (sym (rw f at e))) g

-- the place that was found: r is what `named_package` gave
pub place-named : (id i : ℕ) (ps : List model.Package) (r : Result ℕ refusals.Refusal) → IfOk r (λ k. place_of id ps ≡ Some k) → r ≡ Ok i
    → place_of id ps ≡ Some i
place-named id i ps r e f = IfOk-at_ok _ f e

-- What the place of the payload says: its bytes are the model's payload, and it lies in the store. The place that the checks after refusal 1 give is the same where the state is sound. Assumes nothing.
use Prim.Native.Nat.{ℕ, ◌+◌, ◌≤◌}
use mathlib.Core.Path.{◌≡◌, refl, sym, ap, subst, ◌∙◌}
use mathlib.Core.Bool.{true, false, not}
use mathlib.Core.List.{List}
use mathlib.Core.Option.{Option, none, some}
use native.Mathlib.Omega.{arith}
use lib.ListN.{length, take, drop, length-drop}
use borrow.Author.Tests.{not-false}
use lib.Seq.{drop-drop}
use denote.Ref.{Bor}
use Rattle.base.specs.Refusals.{first_refusal, number_or_zero}
use Rattle.base.proofs.Parts.{drop-take}
use Rattle.model.specs.State.{Package, State, Store}
use Rattle.model.specs.Areas.{area_start, area_of}
use Rattle.model.specs.Sound.{sound, bad_state}
use Rattle.model.specs.Step.{area_read, manifest_of, named}
use Rattle.model.specs.Reading.{further_payload_refusals, payload_refusals, payload, payload_check}
use Rattle.model.proofs.soundness.SoundFacts.{sound-says}
use Rattle.model.proofs.soundness.Accepted.{first-passed, passed_over, refused-by}
use Rattle.model.proofs.store.AreaStart.{area-inside, area-at-start}
use Rattle.model.proofs.reading.Payload.{PayloadFacts, check-number, zero-check, payload-refused, payload-is}
use Rattle.payload.specs.declared.place.PayloadPlace.{PayloadPlace}
use Rattle.payload.specs.Part.{PartAt}
use Rattle.payload.specs.Place.{no_place, place_unless, place, place_on_sound}

module _ (s : State) (store : Store) (id : ℕ) where
  abbrev packages : List Package
  packages = s.transfers.packages

  -- ---- the bytes

  -- of a payload that is given
  module _ (accepted : first_refusal (payload_refusals s store id) ≡ none) where
    facts : PayloadFacts s store id
    facts = payload-is s store id (zero-check s store id accepted)

    same-manifest : manifest_of (area_read s store id) ≡ facts.manifest
    same-manifest = ap manifest_of facts.read

    whole : facts.manifest.start + facts.manifest.count ≡ (named s store id).size
    whole = facts.ends ∙ facts.size

    given_inside : area_start id packages + (facts.manifest.start + facts.manifest.count) ≤ length store
    unfolding payload_refusals
    given_inside =
        let ok = sound-says s store (not-false _ (first-passed _ _ accepted)) in
        omega (arith, whole, area-inside id packages (named s store id) facts.found, ok.fit)

    given-bytes : take facts.manifest.count (drop (area_start id packages + facts.manifest.start) store) ≡ payload s store id
    given-bytes =
        let m = facts.manifest in
        let from = drop (area_start id packages) store in
        let area : area_of id packages store ≡ take (m.start + m.count) from =
        area-at-start id packages (named s store id) store facts.found ∙ ap (λ (n : ℕ). take n from) (sym whole) in
        let room : m.start ≤ length from = rw length-drop (omega (arith, given_inside)) in
        sym
        (facts.behind
        ∙ ap (drop m.start) area
        ∙ drop-take m.start m.count from room
        ∙ ap (take m.count) (drop-drop m.start (area_start id packages) store))

  -- where the payload's part lies
  pub record Lies (p : PayloadPlace) : Type 0 where
    pub inside : p.start + p.count ≤ length store
    pub bytes : take p.count (drop p.start store) ≡ payload s store id

  pub place-lies : Lies (place s store id)
  unfolding place
  place-lies = go (first_refusal (payload_refusals s store id)) refl
    where
      go : (refusal : Option ℕ) → first_refusal (payload_refusals s store id) ≡ refusal → Lies (place_unless s store id refusal)
      go (some number) e = record { inside = omega arith; bytes = sym (payload-refused s store id number e).0 }
      go none e =
          let same = same-manifest e in
          record {
            inside = rw same (omega (arith, given_inside e));
            bytes = rw same (given-bytes e);
          }

  -- ---- 1

  pub sound-place : sound s store ≡ true → place_on_sound s store id ≡ place s store id
  unfolding place place_on_sound payload_refusals
  sound-place ok = ap (place_unless s store id) (sym (passed_over (bad_state s store) (further_payload_refusals s store id) (ap not ok)))

  unsound-first : sound s store ≡ false → first_refusal (payload_refusals s store id) ≡ some 1
  unfolding payload_refusals
  unsound-first bad = refused-by (bad_state s store) (further_payload_refusals s store id) (ap not bad)

  pub unsound-place : sound s store ≡ false → place s store id ≡ no_place
  unfolding place
  unsound-place bad = ap (place_unless s store id) (unsound-first bad)

  pub unsound-check : (n : ℕ) → sound s store ≡ false → n ≡ 1 → n ≡ payload_check s store id
  unsound-check n bad e = e ∙ sym (check-number s store id ∙ ap number_or_zero (unsound-first bad))

  pub sound-check : (n : ℕ) → sound s store ≡ true → n ≡ number_or_zero (first_refusal (further_payload_refusals s store id))
      → n ≡ payload_check s store id
  unfolding payload_refusals
  sound-check n ok e =
      e ∙ sym (check-number s store id ∙ ap number_or_zero (passed_over (bad_state s store) (further_payload_refusals s store id) (ap not ok)))

  -- refused after 1, the place is none
  pub refused-place : (n : ℕ) → some n ≡ first_refusal (further_payload_refusals s store id) → place_on_sound s store id ≡ no_place
  unfolding place_on_sound
  refused-place n e = ap (place_unless s store id) (sym e)

-- what Payload says of the part that it returns, where that is the part at a place which is the payload's
pub promised : (s : State) (whole part : Bor (List ℕ)) (id : ℕ) (given : PayloadPlace) → given ≡ place s whole.now id
    → PartAt whole given part → (part.now ≡ payload s whole.now id) × PartAt whole (place s whole.now id) part
promised s whole part id given e is =
    let there = subst (λ (p : PayloadPlace). PartAt whole p part) e is in
    (there.bytes ∙ (place-lies s whole.now id).bytes, there)

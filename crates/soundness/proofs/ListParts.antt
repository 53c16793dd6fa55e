-- The session's list against the packages, in the order in which the code decides it: a list with as many entries as there are Processed
-- packages fits its array. Of the array's room only that it has a place for each package is used. Assumes nothing.
use Prim.Native.Nat.{ℕ, ◌+◌, ◌≤◌, ◌<◌}
use mathlib.Core.Path.{◌≡◌, refl, sym, ap, ◌∙◌}
use mathlib.Core.Bool.{Bool, true, false, cond, ◌&&◌}
use mathlib.Core.List.{List, [], ◌∷◌, map}
use native.Mathlib.Omega.{arith}
use lib.Dec.{eqb, leb}
use lib.ListN.{length, take, length-map, length-take, length-replicate, replicate}
use borrow.Author.Tests.{eq-eqb, ne_eqb, eqb-true, le-leb, leb-true}
use Rattle.base.specs.Counted.{counted}
use Rattle.base.proofs.Counted.{counted-few}
use Rattle.base.proofs.Tests.{and_left, and_right, bool_cases}
use Rattle.base.proofs.Ladder.{and-stop, and-on}
use Rattle.clusters.proofs.ColumnLaws.{map-twice}
use Rattle.model.specs.State.{PackageState, transferring, transferred, being_processed, processed, Package, Phase, Entry, is_processing}
use Rattle.model.specs.Areas.{is_being_processed, is_processed, count_in}
use Rattle.model.specs.Sound.{packages_most, is_listed, processed_as_listed, list_sound, processing_sound, list_fits}
use Rattle.state.specs.declared.transfers.Transfers.{Transfers}
use Rattle.state.specs.declared.session.Entry.{Entry as EntryStruct}
use Rattle.state.specs.View.{view_packages, entries_most, view_entry, cleared_entry}
use Rattle.state.proofs.Views.{packages-fit}
use Rattle.listed_actions.specs.Listed.{entry_id}
use Rattle.soundness.specs.Parts.{counted_entries, plain_id, list_part_sound}
use Rattle.soundness.proofs.Order.{numbers-first}

-- ---- how many

-- no package is in two states
in-two-states : (s : PackageState) → cond (is_processed s) 1 0 + cond (is_being_processed s) 1 0 ≤ 1
in-two-states transferring = omega arith
in-two-states transferred = omega arith
in-two-states being_processed = omega arith
in-two-states processed = omega arith

both-few : (ps : List Package) → count_in is_processed ps + count_in is_being_processed ps ≤ length ps
unfolding count_in
both-few [] = omega arith
both-few (p ∷ ps) = let ih = both-few ps in let one = in-two-states p.state in omega arith

-- the room of the list has a place for each package
a-place-for-each : packages_most ≤ entries_most
a-place-for-each = omega arith

-- the entries of the Processed packages, and of the one that is Processing, have room
pub room-for-all : (t : Transfers) → t.count ≤ packages_most
    → count_in is_processed (view_packages t) + count_in is_being_processed (view_packages t) ≤ entries_most
room-for-all t few =
    let fits = leb-true (length (view_packages t)) packages_most (packages-fit t ∙ le-leb t.count packages_most few) in
    omega (arith, a-place-for-each, both-few (view_packages t))

-- ---- the list

pub counted-ids : (entries : List EntryStruct) (count : ℕ) → count ≤ entries_most
    → map entry_id (take count entries) ≡ map plain_id (counted_entries entries count)
counted-ids entries count few =
    sym (ap (λ (l : List EntryStruct). map plain_id (map view_entry l)) (counted-few entries_most count cleared_entry entries few) ∙ map-twice view_entry plain_id (take count entries))

-- no entry lists the packages of which none is Processed
none-processed : (ps : List Package) → count_in is_processed ps ≡ 0 → processed_as_listed [] ps ≡ true
unfolding count_in processed_as_listed is_listed
none-processed [] e = refl
none-processed (p ∷ ps) e =
    bool_cases (is_processed p.state)
    (λ is. absurd (omega (arith, rw is at e)))
    λ is. rw (is, none-processed ps (omega (arith, rw is at e)))

module _ (entries : List EntryStruct) (count : ℕ) (long : length entries ≡ entries_most) where
  pub counted-length : length (counted_entries entries count) ≡ count
  counted-length = length-map (counted entries_most cleared_entry count entries) view_entry ∙ go (leb count entries_most) refl
    where
      go : (b : Bool) → leb count entries_most ≡ b → length (cond b (take count entries) (replicate count cleared_entry)) ≡ count
      go true e = rw length-take (omega (arith, leb-true count entries_most e))
      go false e = length-replicate count cleared_entry

  module _ (phase : Phase) (ps : List Package) where
    abbrev listed : List Entry
    listed = counted_entries entries count

    abbrev whole : Bool
    whole = list_part_sound phase ps listed

    abbrev phase_part : Bool
    phase_part = eqb (count_in is_being_processed ps) (cond (is_processing phase) 1 0) && list_fits phase listed

    parts : whole ≡ eqb count (count_in is_processed ps) && (phase_part && processed_as_listed listed ps)
    unfolding list_sound processing_sound
    parts =
        numbers-first (eqb (length listed) (count_in is_processed ps)) (processed_as_listed listed ps) phase_part
        ∙ ap (λ (n : ℕ). eqb n (count_in is_processed ps) && (phase_part && processed_as_listed listed ps)) counted-length

    pub other-count : (count ≡ count_in is_processed ps → ⊥) → false ≡ whole
    other-count h = and-stop (eqb count (count_in is_processed ps)) _ (ne_eqb _ _ h) ∙ sym parts

    pub phase-unfit : count ≡ count_in is_processed ps → phase_part ≡ false → false ≡ whole
    phase-unfit h e = and-on (eqb count (count_in is_processed ps)) _ _ (eq-eqb _ _ h) (and-stop phase_part _ e) ∙ sym parts

    pub phase-fit : count ≡ count_in is_processed ps → phase_part ≡ true → (r : Bool) → r ≡ processed_as_listed listed ps → r ≡ whole
    phase-fit h e r told = and-on (eqb count (count_in is_processed ps)) _ _ (eq-eqb _ _ h) (and-on phase_part _ r e told) ∙ sym parts

    -- with no entry and no Processed package
    pub none-listed : count < 1 → count ≡ count_in is_processed ps → phase_part ≡ true → true ≡ whole
    none-listed few h e =
        let none : count ≡ 0 = omega arith in
        phase-fit h e true (rw none (sym (none-processed ps (sym h ∙ none))))

    -- what a sound list says of the numbers
    pub numbers-told : whole ≡ true → (count ≡ count_in is_processed ps) × (count_in is_being_processed ps ≡ cond (is_processing phase) 1 0)
    numbers-told h =
        let e = sym parts ∙ h in
        let many = eqb count (count_in is_processed ps) in
        let being = eqb (count_in is_being_processed ps) (cond (is_processing phase) 1 0) in
        (eqb-true _ _ (and_left many _ e), eqb-true _ _ (and_left being _ (and_left phase_part _ (and_right many _ e))))

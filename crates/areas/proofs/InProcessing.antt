-- What soundness says to a call in Processing: the package at the place of the one that is processing is the model's package of that id,
-- and the kept values are there and sound. Assumes nothing.
use Prim.Native.Nat.{ℕ, ◌+◌}
use mathlib.Core.Path.{◌≡◌, refl, sym, ap, ◌∙◌}
use mathlib.Core.Bool.{Bool, true, false, not}
use mathlib.Core.Option.{none, some}
use native.Mathlib.Omega.{arith}
use lib.ListN.{length}
use Rattle.base.specs.Refusals.{first_refusal}
use Rattle.base.proofs.Ladder.{told-yes}
use Rattle.std.specs.Prelude.{Some}
use Rattle.model.specs.State as model
use Rattle.model.specs.State.{Store, is_processing}
use Rattle.model.specs.Calls.{Call, call_number}
use Rattle.model.specs.Areas.{is_being_processed, count_in, processing_id}
use Rattle.model.specs.Sound.{packages_most, sound}
use Rattle.model.specs.Step.{refusals}
use Rattle.model.proofs.soundness.Accepted.{accepted-sound, accepted-allowed}
use Rattle.model.proofs.soundness.SoundFacts.{WorkFacts, sound-says}
use Rattle.model.proofs.soundness.Packages.{found-is, found-id}
use Rattle.model.proofs.soundness.Counts.{one}
use Rattle.state.specs.declared.state.State.{State}
use Rattle.state.specs.View.{view_package, cleared_package, view_packages, view_phase, view_session, kept_work, view_work, view_state}
use Rattle.state.specs.Permissions.{allowed_number}
use Rattle.state.proofs.Permitted.{by_number}
use Rattle.state.proofs.OnlyInProcessing.{column, processing_alone, only-in-processing}
use Rattle.state.proofs.KeptValues.{kept_there, kept-facts}
use Rattle.areas.specs.Place.{place_of, processing_place}
use Rattle.areas.specs.Changed.{package_at}
use Rattle.areas.proofs.FoundPackage.{FoundAt, found_at}
use Rattle.areas.proofs.ProcessingPlace.{place_found}

-- ---- the kept values

pub one-processing : (s : State) (store : Store) → sound (view_state s) store ≡ true → is_processing (view_phase s.phase) ≡ true
    → count_in is_being_processed (view_packages s.transfers) ≡ 1
one-processing s store ok in-it = (sound-says (view_state s) store ok).processing ∙ ap one in-it

-- a call that is allowed in Processing alone and is accepted finds them
module _ (s : State) (store : Store) (call : Call) (alone : column (call_number call) ≡ processing_alone) (h : first_refusal (refusals (view_state s) store call) ≡ none) where
  pub accepted-in-it : is_processing (view_phase s.phase) ≡ true
  accepted-in-it =
      sym (only-in-processing (call_number call) alone (view_phase s.phase))
      ∙ sym (by_number (view_phase s.phase) call)
      ∙ accepted-allowed (view_state s) store call h

  pub accepted-kept : view_work s.work ≡ some (kept_work s.work)
  accepted-kept = kept_there s store (accepted-sound (view_state s) store call h) accepted-in-it

-- ---- the package

-- what a call in Processing may go by, with the place i of the package that is processing
pub record InProcessing (s : State) (store : Store) (i : ℕ) : Type 0 where
  pub phase : is_processing (view_phase s.phase) ≡ true
  pub found : FoundAt s store (processing_id (view_packages s.transfers)) i
  pub id : (package_at s.transfers i).id ≡ processing_id (view_packages s.transfers)
  pub kept : WorkFacts (view_session s.session) (view_packages s.transfers) (kept_work s.work)
  pub size : s.work.start + s.work.count ≡ (package_at s.transfers i).size

-- i is what `processing_place` gave
pub at_place : (s : State) (store : Store) (i : ℕ) → sound (view_state s) store ≡ true → length s.transfers.packages ≡ packages_most
    → is_processing (view_phase s.phase) ≡ true → i ≡ processing_place (view_packages s.transfers) → InProcessing s store i
at_place s store i ok long in-it e =
    let ps = view_packages s.transfers in
    let facts = sound-says (view_state s) store ok in
    let there = place_found s.transfers.next ps (view_package cleared_package) facts.rise (omega (arith, one-processing s store ok in-it)) in
    let found = found_at s store (processing_id ps) i (place_of (processing_id ps) ps) ok long refl (there ∙ ap Some (sym e)) in
    let kept = kept-facts s store ok in-it in
    record {
      phase = in-it;
      found = found;
      id = found-id (processing_id ps) ps _ found.known;
      kept = kept;
      size = kept.size ∙ ap (λ (p : model.Package). p.size) (found-is (processing_id ps) ps _ found.known);
    }

-- b is what the table of permissions answers to a call that it allows in Processing alone
pub in-processing : (s : State) (store : Store) (number i : ℕ) (b : Bool) → sound (view_state s) store ≡ true
    → length s.transfers.packages ≡ packages_most → column number ≡ processing_alone → b ≡ allowed_number (view_phase s.phase) number
    → not b ≡ false → i ≡ processing_place (view_packages s.transfers) → InProcessing s store i
in-processing s store number i b ok long alone told permitted e =
    at_place s store i ok long (sym (only-in-processing number alone (view_phase s.phase)) ∙ told-yes b _ told permitted) e

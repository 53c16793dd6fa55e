-- Work has no refusal of its own, and what soundness says before it. Assumes nothing.
use Prim.Native.Nat.{ℕ, ◌≤◌, ◌<◌}
use mathlib.Core.Path.{◌≡◌, refl, ap, ◌∙◌}
use mathlib.Core.Bool.{true, false}
use mathlib.Core.Option.{none}
use native.Mathlib.Omega.{arith}
use lib.ListN.{length, drop}
use borrow.Author.Tests.{lt-ltb, le-ltb}
use Rattle.base.specs.Refusals.{first_refusal}
use Rattle.base.proofs.Ladder.{take-first, take_second}
use Rattle.model.specs.State.{Store, is_processing}
use Rattle.model.specs.Calls.{work}
use Rattle.model.specs.Sound.{sound}
use Rattle.model.specs.Step.{own_refusals}
use Rattle.model.proofs.soundness.SoundFacts.{sound-says}
use Rattle.state.specs.declared.package.PackageState.TheVariants.{Transferred}
use Rattle.state.specs.declared.work.Work.{Work}
use Rattle.state.specs.declared.state.State.{State}
use Rattle.state.specs.declared.answer.Answer.TheVariants.{Working, Cancelled}
use Rattle.state.specs.declared.answer.Answer.{Answer}
use Rattle.state.specs.declared.answer.Answered.{Answered}
use Rattle.state.specs.View.{view_packages, view_phase, entries_most, view_state}
use Rattle.state.specs.Outcome.{outcome, answered}
use Rattle.soundness.proofs.ListParts.{room-for-all, counted-length}
use Rattle.areas.proofs.FoundPackage.{count_fits}
use Rattle.state.specs.Exact.{with_work}
use Rattle.areas.specs.Place.{processing_place}
use Rattle.areas.proofs.InProcessing.{InProcessing, one-processing}
use Rattle.work_on_payload.specs.Payload.{work_on}
use Rattle.work_on_payload.specs.Ending.{ended, sum_compared}
use Rattle.work_on_payload.specs.Work.{area_at, worked_to, worked_at, worked, WorkFits}

module _ (s : State) (store : Store) where
  -- Work has no refusal of its own
  pub work-own : (n : ℕ) → first_refusal (own_refusals (view_state s) store (work n)) ≡ none
  unfolding own_refusals first_refusal
  work-own n = refl

  pub work-given : (n i : ℕ) (r : Answered Answer) → r ≡ worked_at s store i n → i ≡ processing_place (view_packages s.transfers)
      → outcome r store ≡ worked s store n
  work-given n i r e at = rw (e, at)

  -- the entries of the session's list and of the package that is processing have room
  pub entry-room : length s.session.entries ≡ entries_most → sound (view_state s) store ≡ true → is_processing (view_phase s.phase) ≡ true
      → s.session.count < entries_most
  entry-room long ok in-it =
      let facts = sound-says (view_state s) store ok in
      omega (
        arith,
        counted-length s.session.entries s.session.count long,
        facts.entries,
        one-processing s store ok in-it,
        room-for-all s.transfers (count_fits s store ok),
      )

  pub work-fits : (i : ℕ) → length s.session.entries ≡ entries_most → sound (view_state s) store ≡ true → InProcessing s store i
      → WorkFits s i (length store)
  work-fits i long ok here =
      record {
        area = here.found.inside;
        payload = record { inside = omega arith; done = here.kept.done; running_sums = here.kept.running_sums };
        room = entry-room long ok here.phase;
      }

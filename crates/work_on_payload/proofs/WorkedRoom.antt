-- An accepted Work leaves the arrays of the state their room, and the beginning table as it was. Assumes nothing.
use Prim.Native.Nat.{ℕ}
use mathlib.Core.Path.{◌≡◌, refl, ◌∙◌}
use mathlib.Core.Option.{none}
use native.Mathlib.Omega.{arith}
use lib.Dec.{eqb, ltb}
use lib.ListN.{length, drop}
use Rattle.base.specs.Refusals.{first_refusal}
use Rattle.base.proofs.Tests.{cond_cases}
use Rattle.checksum.specs.Sum.{sum_number}
use Rattle.actions.proofs.Arrays.{length-put}
use Rattle.model.specs.State.{Store}
use Rattle.model.specs.Calls.{work}
use Rattle.model.specs.Sound.{packages_most}
use Rattle.model.specs.Step.{refusals}
use Rattle.model.proofs.soundness.Accepted.{accepted-sound}
use Rattle.state.specs.declared.package.PackageState.{PackageState}
use Rattle.state.specs.declared.work.Work.{Work}
use Rattle.state.specs.declared.state.State.{State}
use Rattle.state.specs.declared.answer.Answer.{Answer}
use Rattle.state.specs.declared.answer.Answered.{Answered}
use Rattle.state.specs.View.{view_packages, entries_most, view_state}
use Rattle.areas.specs.Place.{processing_place}
use Rattle.areas.proofs.InProcessing.{accepted-in-it, at_place}
use Rattle.work_on_payload.specs.Payload.{work_on}
use Rattle.work_on_payload.specs.Ending.{ended, sum_compared}
use Rattle.work_on_payload.specs.Work.{area_at, worked_to, worked_at, WorkFits}
use Rattle.work_on_payload.proofs.WorkLaws.{work-fits}

-- what is given has the room of the arrays, and the beginning table of the state that was handed in
pub record KeepsRoom (s : State) (given : Answered Answer) : Type 0 where
  pub packages : length given.state.transfers.packages ≡ packages_most
  pub entries : length given.state.session.entries ≡ entries_most
  pub beginning : given.state.session.beginning ≡ s.session.beginning

module _ (s : State) (store : Store) (long : length s.transfers.packages ≡ packages_most) (long-list : length s.session.entries ≡ entries_most) where
  module _ (i store_length : ℕ) (fits : WorkFits s i store_length) where
    left-room : (package_state : PackageState) (answer : Answer) → KeepsRoom s (ended s.transfers i package_state s.session answer)
    unfolding ended
    left-room package_state answer =
        record {
          packages = length-put i _ s.transfers.packages (omega (arith, long, fits.area.few, fits.area.below)) ∙ long;
          entries = long-list;
          beginning = refl;
        }

    sum_room : (w : Work) → KeepsRoom s (sum_compared s.transfers i s.session w)
    unfolding sum_compared ended
    sum_room w =
        cond_cases (KeepsRoom s) (eqb (sum_number w.running_sums) w.sum) _ _
        (λ same. record {
          packages = length-put i _ s.transfers.packages (omega (arith, long, fits.area.few, fits.area.below)) ∙ long;
          entries = length-put s.session.count _ s.session.entries (omega (arith, long-list, fits.room)) ∙ long-list;
          beginning = refl;
        })
        λ other. left-room _ _

    work-room : (n : ℕ) → KeepsRoom s (worked_at s store i n)
    unfolding worked_at worked_to
    work-room n =
        cond_cases (KeepsRoom s) s.work.cancel_noted _ _ (λ noted. left-room _ _)
        λ unnoted. (let after = work_on s.work n (drop (area_at s i) store) in
        cond_cases (KeepsRoom s) (ltb after.done after.count) _ _ (λ left. record { packages = long; entries = long-list; beginning = refl })
        λ nothing_left. sum_room after)

  pub worked-room : (n : ℕ) → first_refusal (refusals (view_state s) store (work n)) ≡ none
      → KeepsRoom s (worked_at s store (processing_place (view_packages s.transfers)) n)
  worked-room n h =
      let i = processing_place (view_packages s.transfers) in
      let ok = accepted-sound (view_state s) store (work n) h in
      let here = at_place s store i ok long (accepted-in-it s store (work n) refl h) refl in
      work-room i (length store) (work-fits s store i long-list ok here) n

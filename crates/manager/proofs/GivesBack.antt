-- What a call gives without a refusal of the model's is a refusal only of Report in the states that do not allow it, and then it gives back
-- what it was handed. Assumes nothing.
use Prim.Native.Nat.{ℕ}
use mathlib.Core.Path.{◌≡◌, refl}
use mathlib.Core.Bool.{Bool, true, false, true≢false}
use lib.Dec.{eqb, ltb}
use lib.ListN.{drop}
use Rattle.base.proofs.Tests.{cond_cases}
use Rattle.checksum.specs.Sum.{sum_number}
use Rattle.clusters.specs.Table.{needs_met}
use Rattle.clusters.specs.View.{view_table}
use Rattle.model.specs.State.{Store}
use Rattle.model.specs.Calls.{Call, transfer_start, transfer_data, transfer_exit, delete_transfer, process, work, cancel, revert, activate, rollback, finish, report, refused, accepted}
use Rattle.model.specs.Calls as calls
use Rattle.state.specs.declared.state.State.{State}
use Rattle.state.specs.declared.work.Work.{Work}
use Rattle.state.specs.declared.answer.Answer.{Answer}
use Rattle.state.specs.declared.answer.Answered.{Answered}
use Rattle.state.specs.declared.phase.Phase.{Phase}
use Rattle.state.specs.declared.phase.Phase.TheVariants.{Idle, Ready, Processing, Activating, Verifying, Activated, RollingBack, RolledBack, CleaningUp}
use Rattle.state.specs.declared.phase.CleanUpOrigin.TheVariants as clean_up
use Rattle.state.specs.Outcome.{Outcome, outcome, reply_of}
use Rattle.staging.specs.Staged.{staged_table}
use Rattle.work_on_payload.specs.Payload.{work_on}
use Rattle.work_on_payload.specs.Ending.{ended, sum_compared}
use Rattle.work_on_payload.specs.Work.{area_at, worked_to, worked_at}
use Rattle.report.specs.Reported.{activating_reported, phase_reported}
use Rattle.manager.specs.Accepts.{accepts}

-- an outcome gives back a state and a store if it is a refusal
abbrev GivesBack : State → Store → Outcome → Type 0
GivesBack s store o =
    (number : ℕ) → reply_of o.answered.answer ≡ refused number → (o.answered.state ≡ s) × (o.store ≡ store)

-- an accepted answer is no refusal
never : {X : Type 0} (answer : calls.Answer) (number : ℕ) → accepted answer ≡ refused number → X
never answer number e = let z : ◌≡◌ {A = Bool} true false = cc in absurd (true≢false z)

module _ (s : State) (store : Store) where
  abbrev Back : Answered Answer → Type 0
  Back a = GivesBack s store (outcome a store)

  sum_back : (i : ℕ) (w : Work) → Back (sum_compared s.transfers i s.session w)
  unfolding sum_compared ended
  sum_back i w =
      cond_cases Back (eqb (sum_number w.running_sums) w.sum) _ _ (λ t number e. never calls.processed number e)
      λ f number e. never calls.inconsistent number e

  kept_back : (i : ℕ) (after : Work) → Back (worked_to s i after)
  unfolding worked_to
  kept_back i after =
      cond_cases Back (ltb after.done after.count) _ _ (λ t number e. never calls.working number e) λ f. sum_back i after

  work-back : (i n : ℕ) → Back (worked_at s store i n)
  unfolding worked_at ended
  work-back i n =
      cond_cases Back s.work.cancel_noted _ _ (λ t number e. never calls.cancelled number e)
      λ f. kept_back i (work_on s.work n (drop (area_at s i) store))

  activating-back : (good met : Bool) → Back (activating_reported s good met)
  activating-back true true number = never calls.done number
  activating-back true false number = never calls.missing_dependencies number
  activating-back false true number = never calls.pre_activation_failed number
  activating-back false false number = never calls.missing_dependencies number

  report-back : (phase : Phase) (good : Bool) → GivesBack s store (phase_reported s store phase good)
  unfolding phase_reported
  report-back Activating good number = activating-back good (needs_met (view_table (staged_table s.session))) number
  report-back Verifying true number = never calls.done number
  report-back Verifying false number = never calls.verification_failed number
  report-back (RollingBack origin) true number = never calls.done number
  report-back (RollingBack origin) false number = never calls.not_able_to_rollback number
  report-back (CleaningUp origin) true number = never calls.done number
  report-back (CleaningUp clean_up.Ready) false number = never calls.not_able_to_revert number
  report-back (CleaningUp clean_up.Activated) false number = never calls.cleaning_failed number
  report-back (CleaningUp clean_up.RolledBack) false number = never calls.cleaning_failed number
  report-back Idle good number = λ e. (refl, refl)
  report-back Ready good number = λ e. (refl, refl)
  report-back Processing good number = λ e. (refl, refl)
  report-back Activated good number = λ e. (refl, refl)
  report-back RolledBack good number = λ e. (refl, refl)

  pub accepts-back : (call : Call) → GivesBack s store (accepts s store call)
  unfolding accepts
  accepts-back (transfer_start size) number = never (calls.given_id _) number
  accepts-back (transfer_data id counter block) number = never calls.done number
  accepts-back (transfer_exit id) number = never calls.done number
  accepts-back (delete_transfer id) number = never calls.done number
  accepts-back (process id) number = never calls.done number
  accepts-back (work n) number = work-back _ n number
  accepts-back (cancel id) number = never calls.done number
  accepts-back revert number = never calls.done number
  accepts-back activate number = never calls.done number
  accepts-back rollback number = never calls.done number
  accepts-back finish number = never calls.done number
  accepts-back (report good) number = report-back s.phase good number

-- Report on the code's structs, in each manager's state.
use Rattle.std.specs.Prelude.{ℕ, ◌≤◌, Bool, cond}
use Rattle.clusters.specs.declared.table.Table.{Table}
use Rattle.clusters.specs.Table.{needs_met}
use Rattle.clusters.specs.View.{view_table}
use Rattle.model.specs.State.{Store}
use Rattle.model.specs.Areas.{declared, deleted}
use Rattle.model.specs.Sound.{packages_most}
use Rattle.model.specs.Calls.{report}
use Rattle.state.specs.declared.phase.RollbackOrigin.{RollbackOrigin}
use Rattle.state.specs.declared.phase.RollbackOrigin.TheVariants as rollback
use Rattle.state.specs.declared.phase.CleanUpOrigin.{CleanUpOrigin}
use Rattle.state.specs.declared.phase.CleanUpOrigin.TheVariants as clean_up
use Rattle.state.specs.declared.phase.Phase.{Phase}
use Rattle.state.specs.declared.phase.Phase.TheVariants.{Idle, Ready, Processing, Activating, Verifying, Activated, RollingBack, RolledBack, CleaningUp}
use Rattle.state.specs.declared.session.Session.{Session}
use Rattle.state.specs.declared.state.State.{State}
use Rattle.state.specs.declared.answer.Answer.{Answer}
use Rattle.state.specs.declared.answer.Answer.TheVariants.{Done, PreActivationFailed, MissingDependencies, VerificationFailed, NotAbleToRollback, NotAbleToRevert, CleaningFailed}
use Rattle.state.specs.declared.answer.Answered.{Answered}
use Rattle.state.specs.View.{view_packages, entries_most}
use Rattle.state.specs.Exact.{state, in_phase}
use Rattle.state.specs.Outcome.{Outcome, outcome, answered, refused_by, called, called_on_sound}
use Rattle.areas.specs.declared.deletion.Deletion.TheVariants.{AllProcessed}
use Rattle.areas.specs.Deletion.{keeps, remaining_transfers}
use Rattle.staging.specs.Staged.{staged_table, running_table}

-- what a clean-up asks of the state with a store of a length; soundness has it: "At most 16 packages.", "areas fit the store", and the
-- entries have room
pub record CleanUpFits (s : State) (store_length : ℕ) : Type 0 where
  pub packages : s.transfers.count ≤ packages_most
  pub areas : declared (view_packages s.transfers) ≤ store_length
  pub entries : s.session.count ≤ entries_most

-- "Activating: bad gives Ready, PreActivationFailed. Good gives Ready, MissingDependencies, if some need of some cluster isn't met in
-- the staged table; else Verifying."; of bad with an unmet need A.6: "From now on the two together give MissingDependencies, still
-- with Ready." By good, and by whether all needs are met
abbrev pub activating_reported : State → Bool → Bool → Answered Answer
activating_reported s good met =
    cond met
    (cond good (answered Done (in_phase Verifying s)) (answered PreActivationFailed (in_phase Ready s)))
    (answered MissingDependencies (in_phase Ready s))

-- "Verifying: good gives Activated, bad stays, VerificationFailed."
abbrev pub verifying_reported : State → Bool → Answered Answer
verifying_reported s good = cond good (answered Done (in_phase Activated s)) (answered VerificationFailed (in_phase Verifying s))

-- "the state it came from"
abbrev pub rollback_phase : RollbackOrigin → Phase
rollback_phase rollback.Verifying = Verifying
rollback_phase rollback.Activated = Activated

-- "RollingBack: good gives RolledBack; bad the state it came from, NotAbleToRollback."
abbrev pub rolling_back_reported : State → RollbackOrigin → Bool → Answered Answer
rolling_back_reported s origin good =
    cond good (answered Done (in_phase RolledBack s)) (answered NotAbleToRollback (in_phase (rollback_phase origin) s))

-- "going to Idle empties the session's list", and a table "begins the next session". The places of the list, now unused, keep what they had
abbrev pub next_session : Session → Table → Session
next_session session table = record { beginning = table; entries = session.entries; count = 0 }

-- "CleaningUp: good gives Idle and deletes all Processed packages". It is the running table, "the staged one in .. CleaningUp after Finish
-- from Activated", that begins the next session
abbrev pub cleaned_up : State → Store → CleanUpOrigin → Outcome
cleaned_up s store origin =
    outcome
    (answered Done
    (state
    Idle
    (remaining_transfers AllProcessed s.transfers)
    (next_session s.session (running_table (CleaningUp origin) s.session))
    s.work))
    (deleted (keeps AllProcessed) (view_packages s.transfers) store)

-- "bad after Revert gives Ready, NotAbleToRevert, and after Finish stays, CleaningFailed"
abbrev pub failed_answer : CleanUpOrigin → Answer
failed_answer clean_up.Ready = NotAbleToRevert
failed_answer clean_up.Activated = CleaningFailed
failed_answer clean_up.RolledBack = CleaningFailed

abbrev pub failed_phase : CleanUpOrigin → Phase
failed_phase clean_up.Ready = Ready
failed_phase clean_up.Activated = CleaningUp clean_up.Activated
failed_phase clean_up.RolledBack = CleaningUp clean_up.RolledBack

-- CleaningUp, good or bad
abbrev pub cleaning_up_reported : State → Store → CleanUpOrigin → Bool → Outcome
cleaning_up_reported s store origin good =
    cond good (cleaned_up s store origin) (outcome (answered (failed_answer origin) (in_phase (failed_phase origin) s)) store)

-- "Report(good or bad), from the machine." in a manager's state; "Report in Activating, Verifying, RollingBack and CleaningUp": in the
-- other five it is refused by 3
unfoldable pub phase_reported : State → Store → Phase → Bool → Outcome
phase_reported s store Activating good = outcome (activating_reported s good (needs_met (view_table (staged_table s.session)))) store
phase_reported s store Verifying good = outcome (verifying_reported s good) store
phase_reported s store (RollingBack origin) good = outcome (rolling_back_reported s origin good) store
phase_reported s store (CleaningUp origin) good = cleaning_up_reported s store origin good
phase_reported s store Idle good = outcome (refused_by s 3) store
phase_reported s store Ready good = outcome (refused_by s 3) store
phase_reported s store Processing good = outcome (refused_by s 3) store
phase_reported s store Activated good = outcome (refused_by s 3) store
phase_reported s store RolledBack good = outcome (refused_by s 3) store

-- Report(good or bad): refused as the model refuses it, or accepted
abbrev pub report_called : State → Store → Bool → Outcome
report_called s store good = called s store (report good) (phase_reported s store s.phase good)

-- the same after refusal 1, of a sound state
abbrev pub report_called_on_sound : State → Store → Bool → Outcome
report_called_on_sound s store good = called_on_sound s store (report good) (phase_reported s store s.phase good)

-- Report on the structs and in the model: what a sound state meets, and that what is given is seen as the model's.
-- Assumes nothing.
use Prim.Native.Nat.{◌≤◌}
use mathlib.Core.Path.{◌≡◌, refl, ap, ◌∙◌}
use mathlib.Core.Bool.{Bool, true, false, false≢true}
use mathlib.Core.List.{[]}
use mathlib.Core.Option.{none}
use lib.ListN.{length}
use Rattle.base.specs.Refusals.{first_refusal}
use Rattle.base.proofs.Tests.{and_left, and_right}
use Rattle.clusters.specs.declared.table.Table.{Table}
use Rattle.clusters.specs.Table as plain
use Rattle.clusters.specs.Table.{needs_met, table_within, clusters_most}
use Rattle.clusters.specs.View.{view_table}
use Rattle.actions.specs.Action.{actions_within}
use Rattle.actions.proofs.Limits.{apply-all-within}
use Rattle.model.specs.State.{Store, actions}
use Rattle.model.specs.Areas.{deleted}
use Rattle.model.specs.Tables as tables
use Rattle.model.specs.Calls.{report}
use Rattle.model.specs.Permissions.{allowed}
use Rattle.model.specs.Sound.{session_sound, sound}
use Rattle.model.specs.Step as step
use Rattle.model.specs.Step.{activating_phase, activating_answer, moves_to, refusals, act}
use Rattle.model.proofs.soundness.Accepted.{accepted-sound, accepted-allowed}
use Rattle.state.specs.declared.transfers.Transfers.{Transfers}
use Rattle.state.specs.declared.phase.CleanUpOrigin.{CleanUpOrigin}
use Rattle.state.specs.declared.phase.CleanUpOrigin.TheVariants as clean_up
use Rattle.state.specs.declared.phase.RollbackOrigin.TheVariants as rollback
use Rattle.state.specs.declared.phase.Phase.{Phase}
use Rattle.state.specs.declared.phase.Phase.TheVariants.{Idle, Ready, Processing, Activating, Verifying, Activated, RollingBack, RolledBack, CleaningUp}
use Rattle.state.specs.declared.session.Session.{Session}
use Rattle.state.specs.declared.state.State.{State}
use Rattle.state.specs.declared.answer.Answer.{Answer}
use Rattle.state.specs.declared.answer.Answer.TheVariants.{Done}
use Rattle.state.specs.declared.answer.Answered.{Answered}
use Rattle.state.specs.View.{view_packages, view_phase, entries_most, view_session, view_state}
use Rattle.state.specs.Exact.{state, in_phase}
use Rattle.state.specs.Outcome.{Outcome, outcome, answered, view_outcome}
use Rattle.areas.specs.declared.deletion.Deletion.TheVariants.{AllProcessed}
use Rattle.areas.specs.Deletion.{keeps, remaining_transfers}
use Rattle.areas.proofs.FoundPackage.{count_fits, areas-fit}
use Rattle.areas.proofs.Kept.{view-remaining}
use Rattle.soundness.proofs.SoundSession.{session-fits, session-sound}
use Rattle.staging.specs.Staged.{staged_table, running_table}
use Rattle.staging.proofs.StagedViews.{view-staged, view-running}
use Rattle.report.specs.Reported.{CleanUpFits, activating_reported, next_session, cleaned_up, failed_phase, phase_reported}

-- ---- what a sound state meets

module _ (s : State) (store : Store) (ok : sound (view_state s) store ≡ true) where
  pub clean-up-fits : CleanUpFits s (length store)
  clean-up-fits = let fit = areas-fit s store ok in record { packages = fit.0; areas = fit.1; entries = session-fits s store ok }

-- the staged table is within the limits
pub staged-within : (session : Session) → session.count ≤ entries_most → length session.beginning.clusters ≡ clusters_most
    → session_sound (view_session session) ≡ true → (t : Table) → t ≡ staged_table session → table_within (view_table t) ≡ true
unfolding tables.staged session_sound
staged-within session few long ok t e =
    let b = view_table session.beginning in
    let acts = actions (view_session session).listed in
    let w = and_right (table_within b) _ ok in
    rw (e, view-staged session few long ok)
    (apply-all-within b [] acts (and_left (table_within b) _ ok) (and_left (actions_within acts) _ w) (and_right (actions_within acts) _ w))

-- ---- what is given is the model's

module _ (s : State) (store : Store) where
  -- in Activating, by good and by whether the needs are met
  view-activating : (good met : Bool)
      → view_outcome (outcome (activating_reported s good met) store) ≡ moves_to (view_state s) store (activating_phase good met) (activating_answer good met)
  view-activating true true = refl
  view-activating true false = refl
  view-activating false true = refl
  view-activating false false = refl

  -- after a clean-up: the running table begins the next session
  view-cleaned : sound (view_state s) store ≡ true → length s.session.beginning.clusters ≡ clusters_most → (origin : CleanUpOrigin)
      → view_outcome (cleaned_up s store origin)
      ≡ step.cleaned_up (view_state s) store (tables.running_in (view_phase (CleaningUp origin)) (view_session s.session))
  unfolding step.cleaned_up
  view-cleaned ok long origin =
      let few = session-fits s store ok in
      let fine = session-sound s store ok in
      rw (view-remaining AllProcessed s.transfers (count_fits s store ok), view-running s.session few long fine (CleaningUp origin))

  -- a case for each row
  view-row : sound (view_state s) store ≡ true → length s.session.beginning.clusters ≡ clusters_most
      → (phase : Phase) (good : Bool) → allowed (view_phase phase) (report good) ≡ true
      → view_outcome (phase_reported s store phase good) ≡ step.report_outcome (view_state s) store (view_phase phase) good
  unfolding phase_reported step.report_outcome allowed tables.running_in
  view-row ok long Activating good h =
      let few = session-fits s store ok in
      let fine = session-sound s store ok in
      view-activating good _
      ∙ ap (λ (t : plain.Table). moves_to (view_state s) store (activating_phase good (needs_met t)) (activating_answer good (needs_met t))) (view-staged s.session few long fine)
  view-row ok long Verifying true h = refl
  view-row ok long Verifying false h = refl
  view-row ok long (RollingBack origin) true h = refl
  view-row ok long (RollingBack rollback.Verifying) false h = refl
  view-row ok long (RollingBack rollback.Activated) false h = refl
  view-row ok long (CleaningUp clean_up.Ready) true h = view-cleaned ok long clean_up.Ready
  view-row ok long (CleaningUp clean_up.Activated) true h = view-cleaned ok long clean_up.Activated
  view-row ok long (CleaningUp clean_up.RolledBack) true h = view-cleaned ok long clean_up.RolledBack
  view-row ok long (CleaningUp clean_up.Ready) false h = refl
  view-row ok long (CleaningUp clean_up.Activated) false h = refl
  view-row ok long (CleaningUp clean_up.RolledBack) false h = refl
  view-row ok long Idle good h = absurd (false≢true h)
  view-row ok long Ready good h = absurd (false≢true h)
  view-row ok long Processing good h = absurd (false≢true h)
  view-row ok long Activated good h = absurd (false≢true h)
  view-row ok long RolledBack good h = absurd (false≢true h)

  pub view-reported : (good : Bool) → length s.session.beginning.clusters ≡ clusters_most
      → first_refusal (refusals (view_state s) store (report good)) ≡ none
      → view_outcome (phase_reported s store s.phase good) ≡ act (view_state s) store (report good)
  unfolding act
  view-reported good long h =
      view-row (accepted-sound (view_state s) store (report good) h) long s.phase good (accepted-allowed (view_state s) store (report good) h)

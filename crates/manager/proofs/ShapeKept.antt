-- Every call leaves the arrays of a State their room: a refused one gives the State back, and an accepted one puts into places that
-- soundness says are there. Assumes nothing.
use Prim.Native.Nat.{ℕ}
use mathlib.Core.Path.{◌≡◌, refl, sym, ap, ◌∙◌}
use mathlib.Core.Bool.{Bool, true, false}
use mathlib.Core.List.{List, [], ◌∷◌}
use mathlib.Core.Option.{Option, none, some}
use native.Mathlib.Omega.{arith}
use lib.ListN.{length, take, length-append, length-take, length-drop}
use borrow.Author.Tests.{leb-false}
use Rattle.base.specs.Refusals.{first_refusal}
use Rattle.base.proofs.Tests.{cond_cases}
use Rattle.std.specs.Prelude.{None, Some}
use Rattle.place_in_list.specs.Place.{Found}
use Rattle.clusters.specs.declared.table.Table.{Table}
use Rattle.clusters.specs.Table.{needs_met, clusters_most}
use Rattle.clusters.specs.View.{view_table}
use Rattle.actions.proofs.Arrays.{length-put}
use Rattle.actions.specs.Exact.{apply}
use Rattle.actions.proofs.Views.{length-apply}
use Rattle.model.specs.State.{Store}
use Rattle.model.specs.Calls.{Call, transfer_start, transfer_data, transfer_exit, delete_transfer, process, work, cancel, revert, activate, rollback, finish, report}
use Rattle.model.specs.Sound.{packages_most, sound}
use Rattle.model.specs.Step.{own_refusals, refusals}
use Rattle.model.proofs.soundness.Accepted.{first-passed, rest-passed, accepted-sound, accepted-own}
use Rattle.state.specs.declared.package.Package.{Package}
use Rattle.state.specs.declared.transfers.Transfers.{Transfers}
use Rattle.state.specs.declared.session.Entry.{Entry}
use Rattle.state.specs.declared.session.Session.{Session}
use Rattle.state.specs.declared.phase.Phase.{Phase}
use Rattle.state.specs.declared.phase.Phase.TheVariants.{Idle, Ready, Processing, Activating, Verifying, Activated, RollingBack, RolledBack, CleaningUp}
use Rattle.state.specs.declared.work.Work.{Work}
use Rattle.state.specs.declared.state.State.{State}
use Rattle.state.specs.declared.answer.Answer.{Answer}
use Rattle.state.specs.declared.answer.Answered.{Answered}
use Rattle.state.specs.View.{view_packages, view_state}
use Rattle.state.specs.Exact.{state}
use Rattle.state.specs.Outcome.{settled, called}
use Rattle.state.proofs.PackagesAlong.{packages-length}
use Rattle.areas.specs.declared.deletion.Deletion.{Deletion}
use Rattle.areas.specs.declared.deletion.Deletion.TheVariants.{WithId, AllProcessed}
use Rattle.areas.specs.Place.{place_of}
use Rattle.areas.specs.Changed.{changed_at, with_changed}
use Rattle.areas.specs.Deletion.{remaining_transfers}
use Rattle.areas.proofs.FoundPackage.{count_fits, found_at}
use Rattle.areas.proofs.Kept.{length-kept}
use Rattle.staging.specs.Staged.{staged_from, staged_table, runs_staged, running_table}
use Rattle.work_on_payload.proofs.WorkedRoom.{worked-room}
use Rattle.report.specs.Reported.{phase_reported}
use Rattle.manager.specs.Accepts.{accepts, exact_step, Shaped}

-- ---- packages

-- the package of an id changed in its place
changed-room : (s : State) (store : Store) (id : ℕ) (change : Package → Package) → sound (view_state s) store ≡ true
    → length s.transfers.packages ≡ packages_most → length (with_changed id change s.transfers).packages ≡ packages_most
unfolding with_changed
changed-room s store id change ok long = go (place_of id (view_packages s.transfers)) refl
  where
    go : (found : Found) → place_of id (view_packages s.transfers) ≡ found → length (changed_at change s.transfers found).packages ≡ packages_most
    go None e = long
    go (Some i) e =
        let here = found_at s store id i (Some i) ok long (sym e) refl in
        length-put i _ s.transfers.packages (omega (arith, long, here.inside.few, here.inside.below)) ∙ long

-- the packages that a deletion keeps, at the front
remaining-room : (deletion : Deletion) (t : Transfers) → length t.packages ≡ packages_most
    → length (remaining_transfers deletion t).packages ≡ packages_most
unfolding remaining_transfers
remaining-room deletion t long =
    let counting = take t.count t.packages in
    let few = length-kept deletion counting in
    simp (length-append, length-drop) (omega (arith, few, length-take t.count t.packages, long))

-- ---- tables

staged-room : (table : Table) (entries : List Entry) → length table.clusters ≡ clusters_most → length (staged_from table entries).clusters ≡ clusters_most
unfolding staged_from
staged-room table [] long = long
staged-room table (e ∷ entries) long = staged-room (apply e.action table) entries (length-apply table long e.action)

running-room : (phase : Phase) (session : Session) → length session.beginning.clusters ≡ clusters_most
    → length (running_table phase session).clusters ≡ clusters_most
unfolding running_table staged_table
running-room phase session long =
    cond_cases (λ (t : Table). length t.clusters ≡ clusters_most) (runs_staged phase) _ _
    (λ yes. staged-room session.beginning (take session.count session.entries) long) λ no. long

-- ---- the calls

module _ (s : State) (store : Store) (shape : Shaped s) where
  -- a state with the same arrays
  same_shape : {phase : Phase} {kept : Work} → Shaped (state phase s.transfers s.session kept)
  same_shape = record { packages = shape.packages; entries = shape.entries; clusters = shape.clusters }

  -- a state with other packages
  with-packages : {phase : Phase} {kept : Work} (t : Transfers) → length t.packages ≡ packages_most → Shaped (state phase t s.session kept)
  with-packages t long = record { packages = long; entries = shape.entries; clusters = shape.clusters }

  report-shaped : (phase : Phase) (good : Bool) → Shaped (phase_reported s store phase good).answered.state
  unfolding phase_reported
  report-shaped Activating good =
      let P : Answered Answer → Type 0 = λ given. Shaped given.state in
      cond_cases P (needs_met (view_table (staged_table s.session))) _ _ (λ met. cond_cases P good _ _ (λ well. same_shape) λ failed. same_shape)
      λ missing. same_shape
  report-shaped Verifying true = same_shape
  report-shaped Verifying false = same_shape
  report-shaped (RollingBack origin) true = same_shape
  report-shaped (RollingBack origin) false = same_shape
  report-shaped (CleaningUp origin) true =
      record {
        packages = remaining-room AllProcessed s.transfers shape.packages;
        entries = shape.entries;
        clusters = running-room (CleaningUp origin) s.session shape.clusters;
      }
  report-shaped (CleaningUp origin) false = same_shape
  report-shaped Idle good = shape
  report-shaped Ready good = shape
  report-shaped Processing good = shape
  report-shaped Activated good = shape
  report-shaped RolledBack good = shape

  accepts-shaped : (call : Call) → first_refusal (refusals (view_state s) store call) ≡ none → Shaped (accepts s store call).answered.state
  unfolding accepts own_refusals
  accepts-shaped (transfer_start size) h =
      let ok = accepted-sound (view_state s) store (transfer_start size) h in
      let few = packages-length s.transfers (count_fits s store ok) shape.packages in
      let room = leb-false packages_most (length (view_packages s.transfers)) (first-passed _ _ (rest-passed _ _ (accepted-own (view_state s) store (transfer_start size) h))) in
      with-packages _ (length-put s.transfers.count _ s.transfers.packages (omega (arith, room, few, shape.packages)) ∙ shape.packages)
  accepts-shaped (transfer_data id counter block) h =
      with-packages _ (changed-room s store id _ (accepted-sound (view_state s) store (transfer_data id counter block) h) shape.packages)
  accepts-shaped (transfer_exit id) h =
      with-packages _ (changed-room s store id _ (accepted-sound (view_state s) store (transfer_exit id) h) shape.packages)
  accepts-shaped (delete_transfer id) h =
      with-packages _ (remaining-room (WithId id) s.transfers shape.packages)
  accepts-shaped (process id) h =
      with-packages _ (changed-room s store id _ (accepted-sound (view_state s) store (process id) h) shape.packages)
  accepts-shaped (work n) h =
      let room = worked-room s store shape.packages shape.entries n h in
      record {
        packages = room.packages;
        entries = room.entries;
        clusters = ap (λ (t : Table). length t.clusters) room.beginning ∙ shape.clusters;
      }
  accepts-shaped (cancel id) h = same_shape
  accepts-shaped revert h = same_shape
  accepts-shaped activate h = same_shape
  accepts-shaped rollback h = same_shape
  accepts-shaped finish h = same_shape
  accepts-shaped (report good) h = report-shaped s.phase good

  pub step-shaped : (call : Call) → Shaped (exact_step s store call).answered.state
  unfolding called settled
  step-shaped call = go (first_refusal (refusals (view_state s) store call)) refl
    where
      go : (refusal : Option ℕ) → first_refusal (refusals (view_state s) store call) ≡ refusal
          → Shaped (settled s store refusal (accepts s store call)).answered.state
      go (some number) e = shape
      go none e = accepts-shaped call e

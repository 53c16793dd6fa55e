-- The structs of the code as the model's state. Unused places play no part.
use Rattle.std.specs.Prelude.{ℕ, Bool, true, false, not, cond, ◌&&◌, List, map, eqb}
use Rattle.std.proofs.Math.Option.{Option, none, some}
use Rattle.base.specs.Counted.{counted}
use Rattle.text.specs.declared.version.Version.{Version}
use Rattle.actions.specs.declared.action.Change.{Change}
use Rattle.actions.specs.declared.action.Change.TheVariants.{Install, Update, Remove}
use Rattle.clusters.specs.View.{no_cluster, view_table}
use Rattle.actions.specs.Struct.{cleared_action}
use Rattle.actions.specs.View.{view_action}
use Rattle.model.specs.State as model
use Rattle.model.specs.Sound.{packages_most}
use Rattle.state.specs.declared.package.PackageState.{PackageState}
use Rattle.state.specs.declared.package.PackageState.TheVariants.{Transferring, Transferred, Processing, Processed}
use Rattle.state.specs.declared.package.Package.{Package}
use Rattle.state.specs.declared.transfers.Transfers.{Transfers}
use Rattle.state.specs.declared.phase.RollbackOrigin.{RollbackOrigin}
use Rattle.state.specs.declared.phase.RollbackOrigin.TheVariants as rollback
use Rattle.state.specs.declared.phase.CleanUpOrigin.{CleanUpOrigin}
use Rattle.state.specs.declared.phase.CleanUpOrigin.TheVariants as clean_up
use Rattle.state.specs.declared.phase.Phase.{Phase}
use Rattle.state.specs.declared.phase.Phase.TheVariants as phase
use Rattle.state.specs.declared.session.Entry.{Entry}
use Rattle.state.specs.declared.session.Session.{Session}
use Rattle.state.specs.declared.work.Work.{Work}
use Rattle.state.specs.declared.state.State.{State}

-- ---- packages

-- "Package states: Transferring 0, Transferred 1, Processing 2, Processed 3.": the definition for each case of the enum
abbrev pub view_package_state : PackageState → model.PackageState
view_package_state Transferring = model.transferring
view_package_state Transferred = model.transferred
view_package_state Processing = model.being_processed
view_package_state Processed = model.processed

abbrev pub view_package : Package → model.Package
view_package p =
    record { id = p.id; size = p.size; received = p.received; blocks = p.blocks; state = view_package_state p.state }

-- what an unused place holds
abbrev pub cleared_package : Package
cleared_package = record { id = 0; size = 0; received = 0; blocks = 0; state = Transferring }

-- the packages that count; a count above the room gives more than "At most 16 packages."
abbrev pub view_packages : Transfers → List model.Package
view_packages t = map view_package (counted packages_most cleared_package t.count t.packages)

abbrev pub view_transfers : Transfers → model.Transfers
view_transfers t = record { packages = view_packages t; next = t.next }

-- ---- the manager's state

-- "Rollback: Verifying or Activated to RollingBack.": the definition for each case of the enum
abbrev pub view_rollback_origin : RollbackOrigin → model.RollbackOrigin
view_rollback_origin rollback.Verifying = model.verifying_rolls_back
view_rollback_origin rollback.Activated = model.activated_rolls_back

-- "Revert: Ready to CleaningUp."; "Finish: Activated or RolledBack to CleaningUp.": the definition for each case of the enum
abbrev pub view_clean_up_origin : CleanUpOrigin → model.CleanUpOrigin
view_clean_up_origin clean_up.Ready = model.ready_cleans_up
view_clean_up_origin clean_up.Activated = model.activated_cleans_up
view_clean_up_origin clean_up.RolledBack = model.rolled_back_cleans_up

-- "States: Idle 0, Ready 1, Processing 2, Activating 3, Verifying 4, Activated 5, RollingBack 6, RolledBack 7, CleaningUp 8.": the
-- definition for each case of the enum
abbrev pub view_phase : Phase → model.Phase
view_phase phase.Idle = model.idle
view_phase phase.Ready = model.ready
view_phase phase.Processing = model.processing
view_phase phase.Activating = model.activating
view_phase phase.Verifying = model.verifying
view_phase phase.Activated = model.activated
view_phase (phase.RollingBack origin) = model.rolling_back (view_rollback_origin origin)
view_phase phase.RolledBack = model.rolled_back
view_phase (phase.CleaningUp origin) = model.cleaning_up (view_clean_up_origin origin)

-- ---- the session

-- the room of the session's list
abbrev pub entries_most : ℕ
entries_most = 16

abbrev pub view_entry : Entry → model.Entry
view_entry e = record { id = e.id; action = view_action e.action }

abbrev pub cleared_entry : Entry
cleared_entry = record { id = 0; action = cleared_action }

-- what an index past the end of an array of entries reads
abbrev pub no_entry : Entry
no_entry = record { id = 0; action = record { change = Install; cluster = no_cluster } }

-- the entries that count; a count above the room gives more than there are packages
abbrev pub view_entries : Session → List model.Entry
view_entries session = map view_entry (counted entries_most cleared_entry session.count session.entries)

abbrev pub view_session : Session → model.Session
view_session session = record { beginning = view_table session.beginning; listed = view_entries session }

-- ---- the kept values

abbrev pub is_install : Change → Bool
is_install Install = true
is_install Update = false
is_install Remove = false

abbrev pub is_no_version : Version → Bool
is_no_version v = eqb v.first 0 && (eqb v.second 0 && (eqb v.third 0 && eqb v.fourth 0))

-- "When Processing ends all of these and the cancel note are cleared to 0.": every number 0, no needs, no cancel
unfoldable pub is_cleared_work : Work → Bool
is_cleared_work w =
    (is_install w.action.change
    && (eqb w.action.cluster.part 0
    && (is_no_version w.action.cluster.version && eqb w.action.cluster.need_count 0)))
    && ((eqb w.start 0 && (eqb w.count 0 && eqb w.sum 0))
    && (eqb w.running_sums.c0 0 && (eqb w.running_sums.c1 0 && (eqb w.done 0 && not w.cancel_noted))))

abbrev pub kept_work : Work → model.Work
kept_work w =
    record {
      action = view_action w.action;
      start = w.start;
      count = w.count;
      sum = w.sum;
      running_sums = w.running_sums;
      done = w.done;
      cancel_noted = w.cancel_noted;
    }

-- the cleared values are none
abbrev pub view_work : Work → Option model.Work
view_work w = cond (is_cleared_work w) none (some (kept_work w))

-- ---- the whole

abbrev pub view_state : State → model.State
view_state s = model.state (view_phase s.phase) (view_transfers s.transfers) (view_session s.session) (view_work s.work)

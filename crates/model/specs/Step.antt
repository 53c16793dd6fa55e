-- What each of the twelve calls does: its refusals in document 01's order, and otherwise its answer, state and store.
use Rattle.std.specs.Prelude.{ℕ, ◌+◌, ◌-◌, min, Bool, true, false, not, cond, ◌&&◌, ◌||◌, List, [], ◌∷◌, ◌++◌, eqb, leb, ltb, length, take, drop}
use Rattle.std.proofs.Math.Option.{Option, none, some}
use Rattle.base.specs.Refusals.{Refusal, refuse◌when◌, first_refusal}
use Rattle.checksum.specs.Sum.{start_sums, continued, sum_number}
use Rattle.clusters.specs.Table.{Table, needs_met}
use Rattle.actions.specs.Action.{remove}
use Rattle.actions.specs.Refusals.{action_refusals}
use Rattle.manifest.specs.Package.{Manifest, PackageRead, ill_formed, inconsistent, consistent, read_package}
use Rattle.manifest.specs.Refused.{package_refusals}
use Rattle.model.specs.State.{PackageState, transferred, being_processed, Package, RollbackOrigin, verifying_rolls_back, activated_rolls_back, ready_cleans_up, activated_cleans_up, rolled_back_cleans_up, Phase, idle, ready, processing, activating, verifying, activated, rolling_back, rolled_back, cleaning_up, phase_number, is_processing, Transfers, Entry, Session, Work, State, state, Store, actions}
use Rattle.model.specs.State as states
use Rattle.model.specs.Calls.{Call, call_number, transfer_start, transfer_data, transfer_exit, delete_transfer, process, work, cancel, revert, activate, rollback, finish, report, Answer, given_id, done, working, processed, cancelled, pre_activation_failed, missing_dependencies, verification_failed, not_able_to_rollback, not_able_to_revert, cleaning_failed, Reply, refused, accepted}
use Rattle.model.specs.Calls as calls
use Rattle.model.specs.Permissions.{allowed}
use Rattle.model.specs.Areas.{free, find, package_of, area_of, block_put, remaining, deleted, new_package, in_state, with_block, changed, is_transferring, is_transferred, is_being_processed, is_processed, processing_id}
use Rattle.model.specs.Tables.{staged}
use Rattle.model.specs.Sound.{packages_most, id_most, bad_state}

-- what a call gives: its reply, the next state and the store then
pub record Outcome : Type 0 where
  pub reply : Reply
  pub state : State
  pub store : Store

abbrev pub outcome : Answer → State → Store → Outcome
outcome answer s store = record { reply = accepted answer; state = s; store = store }

-- ---- the refusals

-- no package has the id
abbrev pub unknown : ℕ → List Package → Bool
unknown id ps = elim (find id ps) [ none ↦ true | some p ↦ false ]

-- what is looked at where the area has no package text: 9 and 10 are checked before it counts
abbrev pub no_manifest : Manifest
no_manifest = record { action = remove 0; start = 0; count = 0; sum = 0 }

abbrev pub manifest_of : PackageRead → Manifest
manifest_of ill_formed = no_manifest
manifest_of inconsistent = no_manifest
manifest_of (consistent m) = m

-- the refusals of the transfer calls and of Process by the values that they look at. Where a call names an id, they are those of the
-- package that has it, and come after refusal 4

-- "7. IncorrectSize: Start with 0"; "16. TransfersFull: Start with 16 packages."; "17. InsufficientMemory: Start with size above the
-- free bytes."; "18. IdsSpent: Start after 4,294,967,295 was given."
abbrev pub start_refusals : ℕ → ℕ → ℕ → ℕ → List Refusal
start_refusals size count free_bytes next =
    (refuse 7 when ltb size 1)
    ∷ (refuse 16 when leb packages_most count)
    ∷ (refuse 17 when ltb free_bytes size)
    ∷ (refuse 18 when ltb id_most next)
    ∷ []

-- "5. WrongPackageState: Data or Exit off Transferring"; "6. IncorrectBlock: the counter isn't the expected one."; "7. IncorrectSize:
-- .. data empty, or data past the declared size."
abbrev pub data_refusals : Package → ℕ → ℕ → List Refusal
data_refusals p counter size =
    (refuse 5 when not (is_transferring p.state))
    ∷ (refuse 6 when not (eqb counter (p.blocks + 1)))
    ∷ (refuse 7 when (ltb size 1 || ltb p.size (p.received + size)))
    ∷ []

-- "5. WrongPackageState: Data or Exit off Transferring"; "8. InsufficientData: Exit before all bytes came."; "9. InvalidManifest: Exit,
-- Process or Payload"; "10. PackageInconsistent: the same calls"
abbrev pub exit_refusals : Package → PackageRead → List Refusal
exit_refusals p read =
    (refuse 5 when not (is_transferring p.state)) ∷ (refuse 8 when ltb p.received p.size) ∷ package_refusals read

-- "5. WrongPackageState: .. Delete on Processing or Processed"
abbrev pub delete_refusals : PackageState → List Refusal
delete_refusals package_state = (refuse 5 when (is_being_processed package_state || is_processed package_state)) ∷ []

-- "5. WrongPackageState: .. Process off Transferred"; 9 and 10 as above; then "11. ClusterTouched: Process; the session's list has the
-- cluster." to "15. TableFull" of the package's action on the staged table
abbrev pub process_refusals : PackageState → PackageRead → Session → List Refusal
process_refusals package_state read session =
    (refuse 5 when not (is_transferred package_state))
    ∷ (package_refusals read ++ action_refusals (staged session) (actions session.listed) (manifest_of read).action)

module _ (s : State) (store : Store) where
  -- the package with an id, and what its area reads as
  abbrev pub named : ℕ → Package
  named id = package_of id s.transfers.packages

  abbrev pub area_read : ℕ → PackageRead
  area_read id = read_package (area_of id s.transfers.packages store)

  -- the refusals of a call from 4 on, in the order in which they are checked
  unfoldable pub own_refusals : Call → List Refusal
  own_refusals (transfer_start size) =
      start_refusals size (length s.transfers.packages) (free s.transfers.packages store) s.transfers.next
  -- "4. InvalidTransferId: no package has the id"; then those of its package
  own_refusals (transfer_data id counter block) =
      (refuse 4 when unknown id s.transfers.packages) ∷ data_refusals (named id) counter (length block)
  own_refusals (transfer_exit id) =
      (refuse 4 when unknown id s.transfers.packages) ∷ exit_refusals (named id) (area_read id)
  own_refusals (delete_transfer id) =
      (refuse 4 when unknown id s.transfers.packages) ∷ delete_refusals (named id).state
  own_refusals (process id) =
      (refuse 4 when unknown id s.transfers.packages)
      ∷ process_refusals (named id).state (area_read id) s.session
  -- Work has none from 4 on
  own_refusals (work n) = []
  -- "4. InvalidTransferId: .. or Cancel names another than the one processing."
  own_refusals (cancel id) = (refuse 4 when not (eqb id (processing_id s.transfers.packages))) ∷ []
  -- these five have none from 4 on
  own_refusals revert = []
  own_refusals activate = []
  own_refusals rollback = []
  own_refusals finish = []
  own_refusals (report good) = []

  -- those after refusal 1
  unfoldable pub further_refusals : Call → List Refusal
  further_refusals call =
      -- "2. ServiceBusy: Process in Processing."
      (refuse 2 when (eqb (call_number call) 4 && is_processing s.phase))
      -- "3. OperationNotPermitted: the manager's state doesn't allow the call."
      ∷ (refuse 3 when not (allowed s.phase call))
      ∷ own_refusals call

  -- "Checked in this order, each where it names the call": 1 first
  unfoldable pub refusals : Call → List Refusal
  refusals call = bad_state s store ∷ further_refusals call

-- ---- what an accepted call does

abbrev pub with_packages : List Package → Transfers → Transfers
with_packages ps t = record { packages = ps; next = t.next }

-- "with the running sums and the bytes done at 0"
abbrev pub work_at_start : Manifest → Work
work_at_start m =
    record { action = m.action; start = m.start; count = m.count; sum = m.sum; running_sums = start_sums; done = 0; cancel_noted = false }

-- "takes the next n payload bytes, or what is left"
abbrev pub taken : Work → ℕ → ℕ
taken w n = min n (w.count - w.done)

-- the payload bytes that are taken: those of the area from the payload's start plus the bytes done on
abbrev pub bytes_taken : Work → ℕ → List ℕ → List ℕ
bytes_taken w n area = take (taken w n) (drop (w.start + w.done) area)

-- the kept values after n bytes more
abbrev pub work_on : Work → ℕ → List ℕ → Work
work_on w n area =
    record {
      action = w.action;
      start = w.start;
      count = w.count;
      sum = w.sum;
      running_sums = continued w.running_sums (bytes_taken w n area);
      done = w.done + taken w n;
      cancel_noted = w.cancel_noted;
    }

-- "notes the cancel until Processing ends; again is accepted"
abbrev pub with_cancel_noted : Work → Work
with_cancel_noted w =
    record { action = w.action; start = w.start; count = w.count; sum = w.sum; running_sums = w.running_sums; done = w.done; cancel_noted = true }

-- "The state after any of the three endings is Ready if the session's list isn't empty, else Idle."
abbrev pub phase_after : List Entry → Phase
phase_after [] = idle
phase_after (e ∷ entries) = ready

-- "Activating: bad gives Ready, PreActivationFailed. Good gives Ready, MissingDependencies, if some need of some cluster isn't
-- met in the staged table; else Verifying."; of bad with an unmet need A.6: "From now on the two together give MissingDependencies,
-- still with Ready." By good, and by whether all needs are met
abbrev pub activating_answer : Bool → Bool → Answer
activating_answer true true = done
activating_answer true false = missing_dependencies
activating_answer false true = pre_activation_failed
activating_answer false false = missing_dependencies

abbrev pub activating_phase : Bool → Bool → Phase
activating_phase false met = ready
activating_phase true false = ready
activating_phase true true = verifying

-- "bad the state it came from"
abbrev pub rollback_phase : RollbackOrigin → Phase
rollback_phase verifying_rolls_back = verifying
rollback_phase activated_rolls_back = activated

module _ (s : State) (store : Store) where
  -- an accepted call that changes the packages and the store alone
  abbrev pub changes_packages : List Package → Store → Outcome
  changes_packages ps store' = outcome done (state s.phase (with_packages ps s.transfers) s.session s.work) store'

  -- one that changes the manager's state alone
  abbrev pub moves_to : Phase → Answer → Outcome
  moves_to phase answer = outcome answer (state phase s.transfers s.session s.work) store

  -- "When Processing ends all of these and the cancel note are cleared to 0."; "Cancelled and Inconsistent make the package
  -- Transferred again", Processed makes it Processed
  abbrev pub ends_processing : Answer → PackageState → List Entry → Outcome
  ends_processing answer package_state listed =
      outcome answer
      (state
      (phase_after listed)
      (with_packages (changed (processing_id s.transfers.packages) (in_state package_state) s.transfers.packages) s.transfers)
      (record { beginning = s.session.beginning; listed = listed })
      none)
      store

  -- "the action joins the session's list"
  abbrev pub listed_with : Work → List Entry
  listed_with w = s.session.listed ++ record { id = processing_id s.transfers.packages; action = w.action } ∷ []

  -- with no payload left: "answer Inconsistent when the sum differs, else Processed"
  unfoldable pub sum_compared : Work → Outcome
  sum_compared w =
      cond (eqb (sum_number w.running_sums) w.sum)
      (ends_processing processed states.processed (listed_with w))
      (ends_processing calls.inconsistent transferred s.session.listed)

  -- Work(n) on the kept values. "If a cancel is noted, nothing is taken: answer Cancelled. Otherwise, with payload left, answer
  -- Working."
  unfoldable pub worked : Work → ℕ → Outcome
  worked w n =
      let after = work_on w n (area_of (processing_id s.transfers.packages) s.transfers.packages store) in
      cond w.cancel_noted
      (ends_processing cancelled transferred s.session.listed)
      (cond (ltb (w.done + taken w n) w.count)
      (outcome working (state s.phase s.transfers s.session (some after)) store)
      (sum_compared after))

  -- CleaningUp ends: "good gives Idle and deletes all Processed packages"; "going to Idle empties the session's list". The given
  -- table begins the next session
  unfoldable pub cleaned_up : Table → Outcome
  cleaned_up table =
      outcome done
      (state
      idle
      (with_packages (remaining (λ p. not (is_processed p.state)) s.transfers.packages) s.transfers)
      (record { beginning = table; listed = [] })
      s.work)
      (deleted (λ p. not (is_processed p.state)) s.transfers.packages store)

  -- Report in each manager's state. In those that do not allow it, it is refused before it counts
  unfoldable pub report_outcome : Phase → Bool → Outcome
  -- Activating, as above, by whether "some need of some cluster isn't met in the staged table"
  report_outcome activating good =
      moves_to (activating_phase good (needs_met (staged s.session))) (activating_answer good (needs_met (staged s.session)))
  -- "Verifying: good gives Activated, bad stays, VerificationFailed."
  report_outcome verifying true = moves_to activated done
  report_outcome verifying false = moves_to verifying verification_failed
  -- "RollingBack: good gives RolledBack; bad the state it came from, NotAbleToRollback."
  report_outcome (rolling_back origin) true = moves_to rolled_back done
  report_outcome (rolling_back origin) false = moves_to (rollback_phase origin) not_able_to_rollback
  -- "CleaningUp: good gives Idle and deletes all Processed packages; bad after Revert gives Ready, NotAbleToRevert": after Revert the
  -- beginning table stays
  report_outcome (cleaning_up ready_cleans_up) true = cleaned_up s.session.beginning
  report_outcome (cleaning_up ready_cleans_up) false = moves_to ready not_able_to_revert
  -- "and after Finish stays, CleaningFailed"; the staged table runs in "CleaningUp after Finish from Activated; after that CleaningUp
  -- ends it begins the next session"
  report_outcome (cleaning_up activated_cleans_up) true = cleaned_up (staged s.session)
  report_outcome (cleaning_up activated_cleans_up) false = moves_to (cleaning_up activated_cleans_up) cleaning_failed
  -- after Finish from RolledBack the beginning table stays
  report_outcome (cleaning_up rolled_back_cleans_up) true = cleaned_up s.session.beginning
  report_outcome (cleaning_up rolled_back_cleans_up) false = moves_to (cleaning_up rolled_back_cleans_up) cleaning_failed
  -- "Report in Activating, Verifying, RollingBack and CleaningUp": in these five it is refused by 3
  report_outcome idle good = moves_to idle done
  report_outcome ready good = moves_to ready done
  report_outcome processing good = moves_to processing done
  report_outcome activated good = moves_to activated done
  report_outcome rolled_back good = moves_to rolled_back done

  -- the answer, state and store of an accepted call, in the order of document 01's bullets
  unfoldable pub act : Call → Outcome
  -- "TransferStart(size) gives the next id, one above the last given."
  act (transfer_start size) =
      outcome (given_id s.transfers.next)
      (state
      s.phase
      (record { packages = s.transfers.packages ++ new_package s.transfers.next size ∷ []; next = s.transfers.next + 1 })
      s.session
      s.work)
      store
  -- "TransferData(id, block counter, data): the counter .. rises by one per accepted block. The block is written directly behind the
  -- bytes received so far."
  act (transfer_data id counter block) =
      changes_packages (changed id (with_block (length block)) s.transfers.packages) (block_put id block s.transfers.packages store)
  -- "TransferExit(id) checks the package: Transferred."
  act (transfer_exit id) = changes_packages (changed id (in_state transferred) s.transfers.packages) store
  -- "DeleteTransfer(id)."; "Deleting moves later areas down whole"
  act (delete_transfer id) =
      changes_packages
      (remaining (λ p. not (eqb id p.id)) s.transfers.packages)
      (deleted (λ p. not (eqb id p.id)) s.transfers.packages store)
  -- "Process(id): Idle or Ready to Processing. From Idle a session begins. The state keeps the action, the payload's start within its
  -- area, count and sum, with the running sums and the bytes done at 0"
  act (process id) =
      outcome done
      (state
      processing
      (with_packages (changed id (in_state being_processed) s.transfers.packages) s.transfers)
      s.session
      (some (work_at_start (manifest_of (area_read s store id)))))
      store
  -- "Work(n) .. takes the next n payload bytes, or what is left, into the sum." In Processing there are kept values
  act (work n) = elim s.work [ none ↦ moves_to s.phase done | some w ↦ worked w n ]
  -- "Cancel(id) notes the cancel until Processing ends; again is accepted."
  act (cancel id) =
      elim s.work [
        | none ↦ moves_to s.phase done
        | some w ↦ outcome done (state s.phase s.transfers s.session (some (with_cancel_noted w))) store
      ]
  -- "Revert: Ready to CleaningUp."
  act revert = moves_to (cleaning_up ready_cleans_up) done
  -- "Activate: Ready to Activating."
  act activate = moves_to activating done
  -- "Rollback: Verifying or Activated to RollingBack.", and keeps which
  act rollback = moves_to (rolling_back (cond (eqb (phase_number s.phase) 4) verifying_rolls_back activated_rolls_back)) done
  -- "Finish: Activated or RolledBack to CleaningUp.", and keeps which
  act finish = moves_to (cleaning_up (cond (eqb (phase_number s.phase) 5) activated_cleans_up rolled_back_cleans_up)) done
  -- "Report(good or bad), from the machine."
  act (report good) = report_outcome s.phase good

-- a refused call gives state and store back as they were
abbrev pub unless_refused : State → Store → Option ℕ → Outcome → Outcome
unless_refused s store (some number) o = record { reply = refused number; state = s; store = store }
unless_refused s store none o = o

-- one call
unfoldable pub step : State → Store → Call → Outcome
step s store call =
    let accepts = act s store call in
    unless_refused s store (first_refusal (refusals s store call)) accepts

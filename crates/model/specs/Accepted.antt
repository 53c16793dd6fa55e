-- Every way in which a call can be accepted, once: `Accepted s store call o` has a constructor for each, with the facts that document 01
-- demands for it and the outcome `o`. On a sound state a call is accepted exactly in these ways (`accepted-exactly-so` of proofs/Claims).
use Rattle.std.specs.Prelude.{◌≡◌, Bool, true, false, not, List, [], ◌∷◌, ◌++◌, ℕ, ◌+◌, ◌≤◌, ◌<◌, eqb, length}
use Rattle.std.proofs.Math.Option.{Option, none, some}
use Rattle.checksum.specs.Sum.{sum_number}
use Rattle.clusters.specs.Version.{above}
use Rattle.clusters.specs.Cluster.{Cluster}
use Rattle.clusters.specs.Table.{Table, needs_met, clusters_most}
use Rattle.clusters.specs.Table as tables
use Rattle.actions.specs.Action.{Action, install, update, remove}
use Rattle.actions.specs.Refusals.{touched}
use Rattle.manifest.specs.Package.{Manifest, consistent}
use Rattle.model.specs.State.{transferred, being_processed, Package, RollbackOrigin, verifying_rolls_back, activated_rolls_back, CleanUpOrigin, ready_cleans_up, activated_cleans_up, rolled_back_cleans_up, Phase, idle, ready, processing, activating, verifying, activated, rolling_back, rolled_back, cleaning_up, Transfers, Session, Work, State, state, Store, actions}
use Rattle.model.specs.State as states
use Rattle.model.specs.Calls.{Call, transfer_start, transfer_data, transfer_exit, delete_transfer, process, work, cancel, revert, activate, rollback, finish, report, Answer, given_id, done, working, processed, cancelled, pre_activation_failed, missing_dependencies, verification_failed, not_able_to_rollback, not_able_to_revert, cleaning_failed}
use Rattle.model.specs.Calls as calls
use Rattle.model.specs.Areas.{free, find, area_of, block_put, remaining, deleted, new_package, in_state, with_block, changed, is_transferring, is_transferred, is_being_processed, is_processed, processing_id}
use Rattle.model.specs.Tables.{staged}
use Rattle.model.specs.Sound.{packages_most, id_most}
use Rattle.model.specs.Step.{Outcome, outcome, area_read, with_packages, work_at_start, taken, work_on, with_cancel_noted, rollback_phase, changes_packages, ends_processing, listed_with, cleaned_up}

-- an action that is applicable to a staged table after the listed actions: none of the refusals 11 to 15 and 21 that are quoted beside its
-- case applies, and "11. ClusterTouched: .. the session's list has the cluster." does not
pub data Applicable (onto : Table) (listed : List Action) : Action → Type 0 where
  -- "12. ClusterPresent: install of a staged cluster."; "15. TableFull: install with 64 staged."
  installs : (c : Cluster) → touched c.part listed ≡ false → tables.find c.part onto ≡ none → length onto < clusters_most
      → Applicable onto listed (install c)
  -- "13. ClusterAbsent: update or remove of one not staged."; "14. OldVersion: update not above the staged version."
  updates : (c present : Cluster) → touched c.part listed ≡ false → tables.find c.part onto ≡ some present
      → above c.version present.version ≡ true → Applicable onto listed (update c)
  -- 13 as above; A.2: "21 Stays, .. for remove of a cluster marked 1"
  removes : (part : ℕ) (present : Cluster) → touched part listed ≡ false → tables.find part onto ≡ some present → present.stays ≡ false
      → Applicable onto listed (remove part)

-- "Process(id): Idle or Ready to Processing."
pub data AtRest : Phase → Type 0 where
  in_idle : AtRest idle
  in_ready : AtRest ready

-- the calls that change the manager's state alone, with the answer, from one state to another; `met`: all needs of the staged table are
-- met
pub data Moves (met : Bool) : Call → Answer → Phase → Phase → Type 0 where
  -- "Revert: Ready to CleaningUp."; "Activate: Ready to Activating."; "Rollback: Verifying or Activated to RollingBack."; "Finish:
  -- Activated or RolledBack to CleaningUp."
  reverts : Moves met revert done ready (cleaning_up ready_cleans_up)
  activates : Moves met activate done ready activating
  rolls_back_verifying : Moves met rollback done verifying (rolling_back verifying_rolls_back)
  rolls_back_activated : Moves met rollback done activated (rolling_back activated_rolls_back)
  finishes_activated : Moves met finish done activated (cleaning_up activated_cleans_up)
  finishes_rolled_back : Moves met finish done rolled_back (cleaning_up rolled_back_cleans_up)
  -- "Activating: bad gives Ready, PreActivationFailed. Good gives Ready, MissingDependencies, if some need of some cluster isn't met in
  -- the staged table; else Verifying."; of bad with an unmet need A.6: "From now on the two together give MissingDependencies, still
  -- with Ready."
  activation_fails : met ≡ true → Moves met (report false) pre_activation_failed activating ready
  needs_missing : (good : Bool) → met ≡ false → Moves met (report good) missing_dependencies activating ready
  activation_succeeds : met ≡ true → Moves met (report true) done activating verifying
  -- "Verifying: good gives Activated, bad stays, VerificationFailed."
  verification_succeeds : Moves met (report true) done verifying activated
  verification_fails : Moves met (report false) verification_failed verifying verifying
  -- "RollingBack: good gives RolledBack; bad the state it came from, NotAbleToRollback."
  rollback_succeeds : (origin : RollbackOrigin) → Moves met (report true) done (rolling_back origin) rolled_back
  rollback_fails : (origin : RollbackOrigin) → Moves met (report false) not_able_to_rollback (rolling_back origin) (rollback_phase origin)
  -- "bad after Revert gives Ready, NotAbleToRevert, and after Finish stays, CleaningFailed"
  revert_fails : Moves met (report false) not_able_to_revert (cleaning_up ready_cleans_up) ready
  cleaning_activated_fails : Moves met (report false) cleaning_failed (cleaning_up activated_cleans_up) (cleaning_up activated_cleans_up)
  cleaning_rolled_back_fails : Moves met (report false) cleaning_failed (cleaning_up rolled_back_cleans_up) (cleaning_up rolled_back_cleans_up)

-- the table that begins the next session when CleaningUp ends: "In all other states it is the beginning table.", and "CleaningUp after
-- Finish from Activated; after that CleaningUp ends it begins the next session"
pub data Ends (session : Session) : CleanUpOrigin → Table → Type 0 where
  after_revert : Ends session ready_cleans_up session.beginning
  after_finish : Ends session activated_cleans_up (staged session)
  after_rollback : Ends session rolled_back_cleans_up session.beginning

-- the endings of Work that are not Processed. "Cancelled and Inconsistent make the package Transferred again."
pub data Leaves (s : State) (store : Store) (w : Work) (n : ℕ) : Answer → Type 0 where
  by_cancel : w.cancel_noted ≡ true → Leaves s store w n cancelled
  by_sum : w.cancel_noted ≡ false → w.count ≤ w.done + taken w n
      → eqb (sum_number (work_on w n (area_of (processing_id s.transfers.packages) s.transfers.packages store)).running_sums) w.sum ≡ false
      → Leaves s store w n calls.inconsistent

-- a call that is accepted, with its outcome. Beside a case stand the refusals that do not apply to it, or what document 01 says of it
pub data Accepted : State → Store → Call → Outcome → Type 0 where
  -- "7. IncorrectSize: Start with 0"; "16. TransfersFull: Start with 16 packages."; "17. InsufficientMemory: Start with size above the
  -- free bytes."; "18. IdsSpent: Start after 4,294,967,295 was given."
  starts : {s : State} {store : Store} (size : ℕ) → 1 ≤ size → length s.transfers.packages < packages_most
      → size ≤ free s.transfers.packages store → s.transfers.next ≤ id_most
      → Accepted s store (transfer_start size)
      (outcome (given_id s.transfers.next)
      (state
      s.phase
      (record { packages = s.transfers.packages ++ new_package s.transfers.next size ∷ []; next = s.transfers.next + 1 })
      s.session
      s.work)
      store)
  -- "4. InvalidTransferId: no package has the id"; "5. .. Data or Exit off Transferring"; "6. IncorrectBlock: the counter isn't the
  -- expected one."; "7. .. data empty, or data past the declared size."
  puts_block : {s : State} {store : Store} (id counter : ℕ) (block : List ℕ) (p : Package) → find id s.transfers.packages ≡ some p
      → is_transferring p.state ≡ true → counter ≡ p.blocks + 1 → 1 ≤ length block → p.received + length block ≤ p.size
      → Accepted s store (transfer_data id counter block)
      (changes_packages s store (changed id (with_block (length block)) s.transfers.packages) (block_put id block s.transfers.packages store))
  -- "8. InsufficientData: Exit before all bytes came."; 9 and 10: its area reads as a package with exactly its payload
  exits : {s : State} {store : Store} (id : ℕ) (p : Package) (m : Manifest) → find id s.transfers.packages ≡ some p
      → is_transferring p.state ≡ true → p.size ≤ p.received → area_read s store id ≡ consistent m
      → Accepted s store (transfer_exit id) (changes_packages s store (changed id (in_state transferred) s.transfers.packages) store)
  -- "5. .. Delete on Processing or Processed"
  deletes : {s : State} {store : Store} (id : ℕ) (p : Package) → find id s.transfers.packages ≡ some p
      → is_being_processed p.state ≡ false → is_processed p.state ≡ false
      → Accepted s store (delete_transfer id)
      (changes_packages s store
      (remaining (λ q. not (eqb id q.id)) s.transfers.packages)
      (deleted (λ q. not (eqb id q.id)) s.transfers.packages store))
  -- "5. .. Process off Transferred"; 9 and 10 as above; 11 to 15 and 21 of the package's action
  processes : {s : State} {store : Store} (id : ℕ) (p : Package) (m : Manifest) → AtRest s.phase
      → find id s.transfers.packages ≡ some p
      → is_transferred p.state ≡ true → area_read s store id ≡ consistent m
      → Applicable (staged s.session) (actions s.session.listed) m.action
      → Accepted s store (process id)
      (outcome done
      (state
      processing
      (with_packages (changed id (in_state being_processed) s.transfers.packages) s.transfers)
      s.session
      (some (work_at_start m)))
      store)
  -- "Otherwise, with payload left, answer Working."
  works_on : {t : Transfers} {session : Session} {store : Store} (w : Work) (n : ℕ) → w.cancel_noted ≡ false
      → w.done + taken w n < w.count
      → Accepted (state processing t session (some w)) store (work n)
      (outcome working (state processing t session (some (work_on w n (area_of (processing_id t.packages) t.packages store)))) store)
  -- "If a cancel is noted, nothing is taken: answer Cancelled."; "With none left, answer Inconsistent when the sum differs"
  leaves : {t : Transfers} {session : Session} {store : Store} (w : Work) (n : ℕ) {answer : Answer}
      → Leaves (state processing t session (some w)) store w n answer
      → Accepted (state processing t session (some w)) store (work n)
      (ends_processing (state processing t session (some w)) store answer transferred session.listed)
  -- "else Processed, and the action joins the session's list"
  completes : {t : Transfers} {session : Session} {store : Store} (w : Work) (n : ℕ) → w.cancel_noted ≡ false
      → w.count ≤ w.done + taken w n
      → eqb (sum_number (work_on w n (area_of (processing_id t.packages) t.packages store)).running_sums) w.sum ≡ true
      → Accepted (state processing t session (some w)) store (work n)
      (ends_processing (state processing t session (some w)) store processed states.processed (listed_with (state processing t session (some w)) store w))
  -- "4. .. Cancel names another than the one processing"
  cancels : {t : Transfers} {session : Session} {store : Store} (w : Work) (id : ℕ) → id ≡ processing_id t.packages
      → Accepted (state processing t session (some w)) store (cancel id) (outcome done (state processing t session (some (with_cancel_noted w))) store)
  -- the calls that change the manager's state alone
  moves : {phase phase' : Phase} {t : Transfers} {session : Session} {k : Option Work} {store : Store} {call : Call} {answer : Answer}
      → Moves (needs_met (staged session)) call answer phase phase'
      → Accepted (state phase t session k) store call (outcome answer (state phase' t session k) store)
  -- "CleaningUp: good gives Idle and deletes all Processed packages"
  ends : {origin : CleanUpOrigin} {t : Transfers} {session : Session} {k : Option Work} {store : Store} {table : Table}
      → Ends session origin table
      → Accepted (state (cleaning_up origin) t session k) store (report true) (cleaned_up (state (cleaning_up origin) t session k) store table)

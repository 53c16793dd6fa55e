-- Document 01's "book" of demand 3, here `Journal`: "Its book sees each call and its answer, nothing of the state."
use Rattle.std.specs.Prelude.{ℕ, Bool, true, false, cond, List, [], ◌∷◌, ◌++◌, eqb}
use Rattle.clusters.specs.Table.{Table}
use Rattle.actions.specs.Action.{Action, apply_all}
use Rattle.manifest.specs.Package.{read_package}
use Rattle.model.specs.Calls.{Call, transfer_start, transfer_data, transfer_exit, delete_transfer, process, work, cancel, revert, activate, rollback, finish, report, Answer, given_id, done, working, processed, cancelled, inconsistent, pre_activation_failed, missing_dependencies, verification_failed, not_able_to_rollback, not_able_to_revert, cleaning_failed, refused, accepted}
use Rattle.model.specs.Step.{manifest_of}
use Rattle.model.specs.Run.{Made}

-- "An accepted Activate, Revert, Rollback or Finish becomes the direction"; none before the first
pub data Direction : Type 0 where
  no_direction to_activate to_revert to_rollback to_finish : Direction

-- "Tables B and R", "the list A of actions", the direction, the id of "the last accepted Process", "its accepted blocks, joined"
-- for each id, whether a Rollback of the session was completed, and whether the manager is Idle
pub record Journal : Type 0 where
  pub B : Table
  pub R : Table
  pub A : List Action
  pub direction : Direction
  pub last_process : ℕ
  pub blocks : ℕ → List ℕ
  pub rollback_completed : Bool
  pub is_idle : Bool

-- "Tables B and R start as the loaded one, the list A of actions empty."
unfoldable pub opened : Table → Journal
opened table =
    record {
      B = table;
      R = table;
      A = [];
      direction = no_direction;
      last_process = 0;
      blocks = λ id. [];
      rollback_completed = false;
      is_idle = true;
    }

-- "the action in its accepted blocks, joined". The default of `manifest_of` never counts here: by the claims
-- `processing-reads-a-package` and `A-is-the-session-list` the blocks read as a package, and A has the actions of the session's list
unfoldable pub action_in : List ℕ → Action
action_in bytes = (manifest_of (read_package bytes)).action

-- the blocks of an id with one more behind them
unfoldable pub block_joined : ℕ → List ℕ → (ℕ → List ℕ) → ℕ → List ℕ
block_joined id block blocks other = cond (eqb id other) (blocks other ++ block) (blocks other)

abbrev pub with_tables : Table → Table → List Action → Bool → Bool → Journal → Journal
with_tables b r a completed idle j =
    record {
      B = b;
      R = r;
      A = a;
      direction = j.direction;
      last_process = j.last_process;
      blocks = j.blocks;
      rollback_completed = completed;
      is_idle = idle;
    }

abbrev pub with_direction : Direction → Journal → Journal
with_direction d j =
    record {
      B = j.B;
      R = j.R;
      A = j.A;
      direction = d;
      last_process = j.last_process;
      blocks = j.blocks;
      rollback_completed = j.rollback_completed;
      is_idle = j.is_idle;
    }

-- "a return to Idle: B becomes R, A empty"
unfoldable pub returned : Journal → Journal
returned j = with_tables j.R j.R [] false true j

-- "Work answered Processed: the package of the last accepted Process is processed; the action in its accepted blocks, joined,
-- goes last in A."
unfoldable pub package_processed : Journal → Journal
package_processed j = with_tables j.B j.R (j.A ++ action_in (j.blocks j.last_process) ∷ []) j.rollback_completed j.is_idle j

-- "Work answered Cancelled or Inconsistent, A empty: a return to Idle."
unfoldable pub package_left : Journal → Journal
package_left j = elim j.A [ [] ↦ returned j | a ∷ rest ↦ j ]

-- "Report answered Done: with direction Activate R becomes B with A applied in order; with Rollback, now completed, R becomes B;
-- with Revert or Finish the session ends by it, a return to Idle"
unfoldable pub report_done : Direction → Journal → Journal
report_done no_direction j = j
report_done to_activate j = with_tables j.B (apply_all j.B j.A) j.A j.rollback_completed j.is_idle j
report_done to_rollback j = with_tables j.B j.B j.A true j.is_idle j
report_done to_revert j = returned j
report_done to_finish j = returned j

-- what Work's answer says: Processed, Cancelled and Inconsistent as above, any other changes nothing
unfoldable pub work_noted : Answer → Journal → Journal
work_noted processed j = package_processed j
work_noted cancelled j = package_left j
work_noted inconsistent j = package_left j
work_noted (given_id id) j = j
work_noted done j = j
work_noted working j = j
work_noted pre_activation_failed j = j
work_noted missing_dependencies j = j
work_noted verification_failed j = j
work_noted not_able_to_rollback j = j
work_noted not_able_to_revert j = j
work_noted cleaning_failed j = j

-- "Report answered NotAbleToRollback sets it to Activate."
unfoldable pub report_noted : Answer → Journal → Journal
report_noted done j = report_done j.direction j
report_noted not_able_to_rollback j = with_direction to_activate j
report_noted (given_id id) j = j
report_noted working j = j
report_noted processed j = j
report_noted cancelled j = j
report_noted inconsistent j = j
report_noted pre_activation_failed j = j
report_noted missing_dependencies j = j
report_noted verification_failed j = j
report_noted not_able_to_revert j = j
report_noted cleaning_failed j = j

-- an accepted call and its answer
unfoldable pub accepted_noted : Call → Answer → Journal → Journal
accepted_noted (transfer_start size) answer j = j
accepted_noted (transfer_data id counter block) answer j =
    record {
      B = j.B;
      R = j.R;
      A = j.A;
      direction = j.direction;
      last_process = j.last_process;
      blocks = block_joined id block j.blocks;
      rollback_completed = j.rollback_completed;
      is_idle = j.is_idle;
    }
accepted_noted (transfer_exit id) answer j = j
accepted_noted (delete_transfer id) answer j = j
accepted_noted (process id) answer j =
    record {
      B = j.B;
      R = j.R;
      A = j.A;
      direction = j.direction;
      last_process = id;
      blocks = j.blocks;
      rollback_completed = j.rollback_completed;
      is_idle = false;
    }
accepted_noted (work n) answer j = work_noted answer j
accepted_noted (cancel id) answer j = j
accepted_noted revert answer j = with_direction to_revert j
accepted_noted activate answer j = with_direction to_activate j
accepted_noted rollback answer j = with_direction to_rollback j
accepted_noted finish answer j = with_direction to_finish j
accepted_noted (report good) answer j = report_noted answer j

-- "Refused calls change nothing."
unfoldable pub noted : Made → Journal → Journal
noted m j = elim m.reply [ refused number ↦ j | accepted answer ↦ accepted_noted m.call answer j ]

-- the journal after a list of calls with their answers
unfoldable pub journal : Journal → List Made → Journal
journal j [] = j
journal j (m ∷ made) = journal (noted m j) made

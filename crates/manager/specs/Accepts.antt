-- What an accepted call gives on the code's structs, by cases of the call.
use Rattle.std.specs.Prelude.{ℕ, ◌≡◌, List, length}
use Rattle.clusters.specs.Table.{clusters_most}
use Rattle.model.specs.State.{Store}
use Rattle.model.specs.Calls.{Call, transfer_start, transfer_data, transfer_exit, delete_transfer, process, work, cancel, revert, activate, rollback, finish, report}
use Rattle.model.specs.Sound.{packages_most}
use Rattle.model.specs.Step as step
use Rattle.request.specs.declared.Request.{Request}
use Rattle.request.specs.Call.{call_of}
use Rattle.state.specs.declared.state.State.{State}
use Rattle.state.specs.View.{entries_most, view_state}
use Rattle.state.specs.Outcome.{Outcome, called, called_on_sound}
use Rattle.transfer_start.specs.Start.{started}
use Rattle.transfer_data.specs.Data.{block_received}
use Rattle.transfer_exit.specs.Exit.{exited}
use Rattle.delete_transfer.specs.Delete.{without_transfer}
use Rattle.process_package.specs.Process.{processing_begun}
use Rattle.work_on_payload.specs.Work.{worked}
use Rattle.cancel_processing.specs.Cancel.{cancel_noted}
use Rattle.session_calls.specs.Moved.{reverting, activating, rolling_back, finishing}
use Rattle.report.specs.Reported.{phase_reported}

-- "The twelve changing calls", each as its own crate defines it
unfoldable pub accepts : State → Store → Call → Outcome
accepts s store (transfer_start size) = started s store size
accepts s store (transfer_data id counter block) = block_received s store id block
accepts s store (transfer_exit id) = exited s store id
accepts s store (delete_transfer id) = without_transfer s store id
accepts s store (process id) = processing_begun s store id
accepts s store (work n) = worked s store n
accepts s store (cancel id) = cancel_noted s store
accepts s store revert = reverting s store
accepts s store activate = activating s store
accepts s store rollback = rolling_back s store
accepts s store finish = finishing s store
accepts s store (report good) = phase_reported s store s.phase good

-- what a call gives: refused as the model refuses it, or accepted
abbrev pub exact_step : State → Store → Call → Outcome
exact_step s store call = called s store call (accepts s store call)

-- the same after refusal 1, of a sound state
abbrev pub exact_step_on_sound : State → Store → Call → Outcome
exact_step_on_sound s store call = called_on_sound s store call (accepts s store call)

-- what the model's call of a request with its block gives
abbrev pub request_step : State → Store → Request → List ℕ → step.Outcome
request_step s store request block = step.step (view_state s) store (call_of request block)

-- what the type of a State says: its arrays have their room
pub record Shaped (s : State) : Type 0 where
  pub packages : length s.transfers.packages ≡ packages_most
  pub entries : length s.session.entries ≡ entries_most
  pub clusters : length s.session.beginning.clusters ≡ clusters_most

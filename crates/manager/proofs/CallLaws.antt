-- The twelve calls as one: what a call of a request gives, that an accepted one is seen as the model's, and that a refused one gives back
-- what it was handed. Assumes nothing.
use Prim.Native.Nat.{ℕ}
use mathlib.Core.Path.{◌≡◌}
use mathlib.Core.List.{List}
use mathlib.Core.Option.{none}
use Rattle.base.specs.Refusals.{first_refusal}
use Rattle.model.specs.State.{Store}
use Rattle.model.specs.Calls.{Call, transfer_start, transfer_data, transfer_exit, delete_transfer, process, work, cancel, revert, activate, rollback, finish, report}
use Rattle.model.specs.Step.{refusals, act}
use Rattle.request.specs.declared.Request.{Request}
use Rattle.request.specs.Call.{call_of}
use Rattle.state.specs.declared.state.State.{State}
use Rattle.state.specs.View.{view_state}
use Rattle.state.specs.Outcome.{Outcome, view_outcome, called_on_sound}
use Rattle.transfer_start.proofs.StartLaws.{view-started}
use Rattle.transfer_data.proofs.DataLaws.{view-received}
use Rattle.transfer_exit.proofs.ExitLaws.{view-exited}
use Rattle.delete_transfer.proofs.DeleteLaws.{view-without}
use Rattle.process_package.proofs.ProcessLaws.{view-begun}
use Rattle.work_on_payload.proofs.ViewWorked.{view-worked}
use Rattle.cancel_processing.proofs.CancelLaws.{view-noted}
use Rattle.session_calls.proofs.MoveLaws.{view-reverting, view-activating, view-rolling-back, view-finishing}
use Rattle.report.proofs.ReportLaws.{view-reported}
use Rattle.manager.specs.Accepts.{accepts, Shaped}

-- the call of a request whose case is known
pub by-request : (s : State) (store : Store) (block : List ℕ) (request case : Request) (given : Outcome) → request ≡ case
    → given ≡ called_on_sound s store (call_of case block) (accepts s store (call_of case block))
    → given ≡ called_on_sound s store (call_of request block) (accepts s store (call_of request block))
by-request s store block request case given is same = rw is same

-- an accepted call is seen as the model's
pub view-accepts : (s : State) (store : Store) → Shaped s → (call : Call) → first_refusal (refusals (view_state s) store call) ≡ none
    → view_outcome (accepts s store call) ≡ act (view_state s) store call
unfolding accepts
view-accepts s store shape (transfer_start size) h = view-started s store size shape.packages h
view-accepts s store shape (transfer_data id counter block) h = view-received s store id block counter shape.packages h
view-accepts s store shape (transfer_exit id) h = view-exited s store id shape.packages h
view-accepts s store shape (delete_transfer id) h = view-without s store id h
view-accepts s store shape (process id) h = view-begun s store id shape.packages h
view-accepts s store shape (work n) h = view-worked s store n shape.packages shape.entries h
view-accepts s store shape (cancel id) h = view-noted s store id h
view-accepts s store shape revert h = view-reverting s store
view-accepts s store shape activate h = view-activating s store
view-accepts s store shape rollback h = view-rolling-back s store
view-accepts s store shape finish h = view-finishing s store
view-accepts s store shape (report good) h = view-reported s store good shape.clusters h

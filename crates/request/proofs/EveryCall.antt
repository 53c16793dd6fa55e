-- Every call is that of a request and a block, so that requests leave no call out. Assumes nothing.
use Prim.Native.Nat.{ℕ}
use mathlib.Core.Path.{◌≡◌, refl}
use mathlib.Core.List.{List, []}
use Rattle.model.specs.Calls as calls
use Rattle.model.specs.Calls.{Call}
use Rattle.request.specs.declared.Request.{Request}
use Rattle.request.specs.declared.Request.TheVariants.{TransferStart, TransferData, TransferExit, DeleteTransfer, Process, Work, Cancel, Revert, Activate, Rollback, Finish, Report}
use Rattle.request.specs.Call.{call_of}

pub every_call : (call : Call) → (request : Request) × ((block : List ℕ) × (call_of request block ≡ call))
every_call (calls.transfer_start size) = (TransferStart size, ([], refl))
every_call (calls.transfer_data id counter block) = (TransferData id counter, (block, refl))
every_call (calls.transfer_exit id) = (TransferExit id, ([], refl))
every_call (calls.delete_transfer id) = (DeleteTransfer id, ([], refl))
every_call (calls.process id) = (Process id, ([], refl))
every_call (calls.work n) = (Work n, ([], refl))
every_call (calls.cancel id) = (Cancel id, ([], refl))
every_call calls.revert = (Revert, ([], refl))
every_call calls.activate = (Activate, ([], refl))
every_call calls.rollback = (Rollback, ([], refl))
every_call calls.finish = (Finish, ([], refl))
every_call (calls.report good) = (Report good, ([], refl))

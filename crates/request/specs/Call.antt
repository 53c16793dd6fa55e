-- A request and the block lent beside it as a call of the model.
use Rattle.std.specs.Prelude.{ℕ, List}
use Rattle.model.specs.Calls as calls
use Rattle.model.specs.Calls.{Call}
use Rattle.request.specs.declared.Request.{Request}
use Rattle.request.specs.declared.Request.TheVariants.{TransferStart, TransferData, TransferExit, DeleteTransfer, Process, Work, Cancel, Revert, Activate, Rollback, Finish, Report}

-- "The twelve changing calls": the definition for each case of the enum. Only "TransferData(id, block counter, data)" has data, the
-- block; of Report, true is good and false is bad
abbrev pub call_of : Request → List ℕ → Call
call_of (TransferStart size) block = calls.transfer_start size
call_of (TransferData id counter) block = calls.transfer_data id counter block
call_of (TransferExit id) block = calls.transfer_exit id
call_of (DeleteTransfer id) block = calls.delete_transfer id
call_of (Process id) block = calls.process id
call_of (Work n) block = calls.work n
call_of (Cancel id) block = calls.cancel id
call_of Revert block = calls.revert
call_of Activate block = calls.activate
call_of Rollback block = calls.rollback
call_of Finish block = calls.finish
call_of (Report good) block = calls.report good

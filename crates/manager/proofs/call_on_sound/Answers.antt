-- `manager::call_on_sound` meets its contract: in each arm the case of the request is known, and the call of that case gives what it says.
-- Assumes nothing.
use Rattle.manager.specs.Accepts.{accepts}
use Rattle.manager.proofs.CallLaws.{by-request}
use Rattle.manager.proofs.call_on_sound.Goals as goal

pub returns-in-TransferStart : goal.returns-in-TransferStart
unfolding accepts
returns-in-TransferStart c = search by-request

pub returns-in-TransferData : goal.returns-in-TransferData
unfolding accepts
returns-in-TransferData c = search by-request

pub returns-in-TransferExit : goal.returns-in-TransferExit
unfolding accepts
returns-in-TransferExit c = search by-request

pub returns-in-DeleteTransfer : goal.returns-in-DeleteTransfer
unfolding accepts
returns-in-DeleteTransfer c = search by-request

pub returns-in-Process : goal.returns-in-Process
unfolding accepts
returns-in-Process c = search by-request

pub returns-in-Work : goal.returns-in-Work
unfolding accepts
returns-in-Work c = search by-request

pub returns-in-Cancel : goal.returns-in-Cancel
unfolding accepts
returns-in-Cancel c = search by-request

pub returns-in-Revert : goal.returns-in-Revert
unfolding accepts
returns-in-Revert c = search by-request

pub returns-in-Activate : goal.returns-in-Activate
unfolding accepts
returns-in-Activate c = search by-request

pub returns-in-Rollback : goal.returns-in-Rollback
unfolding accepts
returns-in-Rollback c = search by-request

pub returns-in-Finish : goal.returns-in-Finish
unfolding accepts
returns-in-Finish c = search by-request

pub returns-in-Report : goal.returns-in-Report
unfolding accepts
returns-in-Report c = search by-request

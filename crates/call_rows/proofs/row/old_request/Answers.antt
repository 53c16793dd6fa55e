-- `call_rows::row::old_request` meets its contract: by the number of the call. Assumes nothing.
use Rattle.call_rows.specs.Row.{requests_by_number}
use Rattle.call_rows.proofs.RowLaws.{with_number, without-number, no-such-call, past-fifteen}
use Rattle.call_rows.proofs.row.old_request.Goals as goal

pub returns-in-12 : goal.returns-in-12
unfolding requests_by_number
returns-in-12 c = search without-number

pub returns-in-13 : goal.returns-in-13
unfolding requests_by_number
returns-in-13 c = search with_number

pub returns-in-14 : goal.returns-in-14
unfolding requests_by_number
returns-in-14 c = search without-number

pub returns-in-15 : goal.returns-in-15
unfolding requests_by_number
returns-in-15 c = search without-number

pub returns-in_default : goal.returns-in_default
returns-in_default c = search (no-such-call, past-fifteen)

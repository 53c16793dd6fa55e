-- `call_rows::row::request_of` meets its contract: the reserved word first, then by the number of the call. Assumes nothing.
use Rattle.call_rows.specs.Row.{requests_by_number}
use Rattle.call_rows.proofs.RowLaws.{reserved-used, reserved-free, by_number, with_number, without-number, with-report, past-five, past-eleven}
use Rattle.call_rows.proofs.row.request_of.Goals as goal

pub returns-then-row-ne0 : goal.returns-then-row-ne0
returns-then-row-ne0 c = search reserved-used

pub old_request-requires : goal.old_request-requires
old_request-requires c = search (past-five, past-eleven)

pub returns-in-0 : goal.returns-in-0
unfolding requests_by_number
returns-in-0 c = search (reserved-free, with_number)

pub returns-in-1 : goal.returns-in-1
unfolding requests_by_number
returns-in-1 c = search (reserved-free, by_number)

pub returns-in-2 : goal.returns-in-2
unfolding requests_by_number
returns-in-2 c = search (reserved-free, with_number)

pub returns-in-3 : goal.returns-in-3
unfolding requests_by_number
returns-in-3 c = search (reserved-free, with_number)

pub returns-in-4 : goal.returns-in-4
unfolding requests_by_number
returns-in-4 c = search (reserved-free, with_number)

pub returns-in-5 : goal.returns-in-5
unfolding requests_by_number
returns-in-5 c = search (reserved-free, with_number)

pub returns-in-6 : goal.returns-in-6
unfolding requests_by_number
returns-in-6 c = search (reserved-free, with_number)

pub returns-in-7 : goal.returns-in-7
unfolding requests_by_number
returns-in-7 c = search (reserved-free, without-number)

pub returns-in-8 : goal.returns-in-8
unfolding requests_by_number
returns-in-8 c = search (reserved-free, without-number)

pub returns-in-9 : goal.returns-in-9
unfolding requests_by_number
returns-in-9 c = search (reserved-free, without-number)

pub returns-in-10 : goal.returns-in-10
unfolding requests_by_number
returns-in-10 c = search (reserved-free, without-number)

pub returns-in-11 : goal.returns-in-11
unfolding requests_by_number
returns-in-11 c = search (reserved-free, with-report)

pub returns-in_default : goal.returns-in_default
returns-in_default c = search reserved-free

-- `measured::calls::make_row` meets its contract: a malformed row is no call, an old call none of the twelve, and the call of any other is
-- made with its block. Assumes nothing.
use Rattle.call_rows.proofs.RowLaws.{block_within}
use Rattle.measured.proofs.TwelveRow.{no_call, no-twelve, twelve-call}
use Rattle.measured.proofs.calls.make_row.Goals as goal

pub row_block-requires : goal.row_block-requires
row_block-requires c = search block_within

pub returns-in-Some-Twelve : goal.returns-in-Some-Twelve
returns-in-Some-Twelve c = search twelve-call

pub returns-in-Some-Old : goal.returns-in-Some-Old
returns-in-Some-Old c = search no-twelve

pub returns-in-None : goal.returns-in-None
returns-in-None c = search no_call

-- `call_list::make_call` meets its contract: a malformed row is no call, and of any other the call of its request, of the twelve with its
-- block or of the old four, is made. Assumes nothing.
use Rattle.call_rows.proofs.RowLaws.{block_within}
use Rattle.call_list.proofs.RowCall.{no_row, twelve-row, old_row}
use Rattle.call_list.proofs.make_call.Goals as goal

pub row_block-requires : goal.row_block-requires
row_block-requires c = search block_within

pub returns-in-Some-Twelve : goal.returns-in-Some-Twelve
returns-in-Some-Twelve c = search twelve-row

pub returns-in-Some-Old : goal.returns-in-Some-Old
returns-in-Some-Old c = search old_row

pub returns-in-None : goal.returns-in-None
returns-in-None c = search no_row

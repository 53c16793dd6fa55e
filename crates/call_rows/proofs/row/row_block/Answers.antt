-- `call_rows::row::row_block` meets its contract: the part from the start to the end. Assumes nothing.
use borrow.Author.Rules.{rules}
use Rattle.call_rows.proofs.RowLaws.{block-part}
use Rattle.call_rows.proofs.row.row_block.Goals as goal

pub returns : goal.returns
returns c = search (rules, block-part)

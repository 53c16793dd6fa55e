-- `call_rows::row_list::rows_well_formed` meets its contract: no words are left over, and each row has a request. Assumes nothing.
use Rattle.std.proofs.Common.{rules}
use Rattle.std.proofs.lemmas.Iterator.{YieldsList-from_slice}
use Rattle.std.proofs.lemmas.Iterator.Search.{all_from_yields_List}
use Rattle.call_rows.proofs.RowListLaws.{has_request, told-request, check-left-over, check-rows}
use Rattle.call_rows.proofs.row_list.rows_well_formed.Goals as goal

pub returns-then-is_empty : goal.returns-then-is_empty
returns-then-is_empty c =
    check-rows c.args.words.now c.args.bytes.now _ c.as_chunks.ensures.back_len c.is_empty.result c.is_empty.ensures c.if-is_empty.true _ c.all.result c.as_chunks.ensures.front
    (all_from_yields_List (has_request c.args.bytes.now) _ _ c.all.result c.all.ensures.ran (YieldsList-from_slice _ cc) (λ x b q k. search (rules, told-request)))

pub returns-else-is_empty : goal.returns-else-is_empty
returns-else-is_empty c =
    check-left-over c.args.words.now c.args.bytes.now _ c.as_chunks.ensures.back_len c.is_empty.result c.is_empty.ensures c.if-is_empty.false

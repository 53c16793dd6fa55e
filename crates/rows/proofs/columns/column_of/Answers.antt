-- `rows::columns::column_of` meets its contract. Invariant: the name's column is its column from field number k on.
-- Measure: the fields left. Assumes nothing.
use native.Mathlib.Nat.{sub-zero}
use Rattle.rows.proofs.ColumnLaws.{column-over, column-found, column-on}
use Rattle.rows.proofs.columns.column_of.Goals as goal

pub loop-k-init : goal.loop-k-init
loop-k-init c = rw sub-zero

pub returns-then-is_word : goal.returns-then-is_word
returns-then-is_word c = search column-found

pub loop-k-preserved : goal.loop-k-preserved
loop-k-preserved c = search column-on

pub returns : goal.returns
returns c = search column-over

-- `rows::columns::column_of` meets its contract. Invariant: the name's column is its column from field number k on.
-- Assumes nothing.
use Prim.Native.Nat.{◌-◌}
use mathlib.Core.Path.{◌≡◌}
use lib.ListN.{drop}
use Rattle.rows.specs.Columns.{column_from}
use Rattle.rows.proofs.columns.column_of.Given as goal

abbrev pub invariant-loop-k : goal.invariant-loop-k
invariant-loop-k l =
    column_from l.fields 0 l.name (drop l.line.at l.s) ≡ column_from (l.fields - l.k) l.k l.name (drop l.line.at l.s)

-- `listed_actions::in_turn::pass_in_turn` meets its contract. The loop's invariant: of each table that the columns are of, the list passes
-- in turn exactly where the rest from i on passes after the first i, with so many clusters staged. Assumes nothing.
use mathlib.Core.Path.{◌≡◌}
use mathlib.Core.Bool.{true}
use mathlib.Core.List.{[]}
use Prim.Native.Nat.{◌+◌, ◌≤◌}
use lib.ListN.{take, drop}
use Rattle.clusters.specs.Table.{Table, table_within, clusters_most}
use Rattle.clusters.specs.Columns.{ColumnsOf}
use Rattle.actions.specs.Action.{actions_within}
use Rattle.actions.specs.Refusals.{pass_in_turn}
use Rattle.listed_actions.specs.Listed.{listed_actions}
use Rattle.listed_actions.specs.InTurn.{pass_in_turn_on}
use Rattle.listed_actions.proofs.in_turn.pass_in_turn.Given as goal

abbrev pub invariant-loop-i : goal.invariant-loop-i
invariant-loop-i l =
    (l.staged ≤ clusters_most + l.i)
    × ((t : Table) → ColumnsOf l.columns t → table_within t ≡ true → actions_within (listed_actions l.entries l.count) ≡ true
    → pass_in_turn t [] (listed_actions l.entries l.count) ≡ pass_in_turn_on t l.staged (take l.i (listed_actions l.entries l.count)) (drop l.i (listed_actions l.entries l.count)))

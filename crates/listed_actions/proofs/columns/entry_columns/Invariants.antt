-- `listed_actions::columns::entry_columns` meets its contract. The loop's invariant: the first i places of each column are those of
-- the first i entries. Assumes nothing.
use mathlib.Core.Path.{◌≡◌}
use mathlib.Core.List.{map}
use lib.ListN.{length, take}
use Rattle.state.specs.View.{entries_most}
use Rattle.listed_actions.specs.Listed.{entry_id, entry_part}
use Rattle.listed_actions.proofs.columns.entry_columns.Given as goal

abbrev pub invariant-loop-i : goal.invariant-loop-i
invariant-loop-i l =
    (length l.ids ≡ entries_most)
    × (length l.parts ≡ entries_most)
    × (take l.i l.ids ≡ map entry_id (take l.i l.entries))
    × (take l.i l.parts ≡ map entry_part (take l.i l.entries))

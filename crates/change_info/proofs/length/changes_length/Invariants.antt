-- `change_info::length::changes_length` meets its contract. The loop's invariant: the total and the length of the lines of the entries
-- left make the length of the text. Assumes nothing.
use Prim.Native.Nat.{◌+◌}
use mathlib.Core.Path.{◌≡◌}
use lib.ListN.{length, drop}
use Rattle.change_info.proofs.ListedLines.{lines_of}
use Rattle.change_info.proofs.length.changes_length.Given as goal

abbrev pub invariant-loop-entry : goal.invariant-loop-entry
invariant-loop-entry l = l.total + length (lines_of (drop l.entry-index l.entry-items)) ≡ 15 + length (lines_of l.entry-items)

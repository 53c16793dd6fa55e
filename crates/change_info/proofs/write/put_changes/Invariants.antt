-- `change_info::write::put_changes` meets its contract. The loop's invariant: with the lines of the entries left put at `at`, the whole
-- text stands. Assumes nothing.
use lib.ListN.{drop}
use Rattle.text.proofs.Putting.{Putting}
use Rattle.change_info.proofs.ListedLines.{lines_of}
use Rattle.change_info.proofs.write.put_changes.Given as goal

abbrev pub invariant-loop-entry : goal.invariant-loop-entry
invariant-loop-entry l = Putting l.initial.buffer l.from (lines_of l.entry-items) l.buffer l.at (lines_of (drop l.entry-index l.entry-items))

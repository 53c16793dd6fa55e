-- `cluster_list::read::value_lines` meets its contract. The loop's invariant: the array and the end are those of a table within the
-- limits, and the lines of the whole read from nothing give what the lines from `at` on give after it. The measure is the bytes left.
-- Assumes nothing.
use Prim.Native.Nat.{◌-◌}
use lib.ListN.{length}
use Rattle.cluster_list.proofs.ReadLaws.{Reading}
use Rattle.cluster_list.proofs.read.value_lines.Given as goal

abbrev pub invariant-loop-at : goal.invariant-loop-at
invariant-loop-at l = Reading l.s l.columns l.commas l.initial.at l.clusters l.end l.at

abbrev pub decreases-loop-at : goal.decreases-loop-at
decreases-loop-at l = length l.s - l.at

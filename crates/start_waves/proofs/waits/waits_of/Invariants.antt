-- `start_waves::waits::waits_of` meets its contract. The loop's invariant: the places below k are those of the table. Assumes nothing.
use Rattle.clusters.specs.View.{view_table}
use Rattle.start_waves.proofs.WaitLaws.{FilledTo}
use Rattle.start_waves.proofs.waits.waits_of.Given as goal

abbrev pub invariant-loop-k : goal.invariant-loop-k
invariant-loop-k l = FilledTo l.places (view_table l.t) l.k

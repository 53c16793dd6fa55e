-- `soundness::counts::count_states` meets its contract. The loop's invariant: the counts so far, with those of the packages from i on, are
-- the counts of all. Assumes nothing.
use lib.ListN.{drop}
use Rattle.model.specs.Areas.{is_processed, is_being_processed, count_in}
use Rattle.state.specs.View.{view_packages}
use Rattle.soundness.proofs.Counting.{CountedTo}
use Rattle.soundness.proofs.counts.count_states.Given as goal

abbrev pub invariant-loop-p : goal.invariant-loop-p
invariant-loop-p l =
    CountedTo is_processed (count_in is_processed (view_packages l.fn.t)) l.processed l.p-index (drop l.p-index (view_packages l.fn.t))
    × CountedTo is_being_processed (count_in is_being_processed (view_packages l.fn.t)) l.processing l.p-index (drop l.p-index (view_packages l.fn.t))

-- `start_waves::rounds::list_waves` meets its contract. The loop's invariant is `Listing`: the waves so far are listed, and the rounds that are
-- left give the others. The measure is the number of clusters that are not listed. Assumes nothing.
use Prim.Native.Nat.{◌-◌}
use Rattle.start_waves.proofs.Listing.{Listing}
use Rattle.start_waves.proofs.rounds.list_waves.Given as goal

abbrev pub invariant-loop-started : goal.invariant-loop-started
invariant-loop-started l = Listing l.parts l.waits l.size l.started l.number l.initial.buffer l.buffer

abbrev pub decreases-loop-started : goal.decreases-loop-started
decreases-loop-started l = l.size - l.started.count

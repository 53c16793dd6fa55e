-- `areas::deletion::remaining` meets its contract. The loop's invariant: those of the first packages that are kept stand at the front, and
-- every other place is as it was. Assumes nothing.
use Rattle.areas.proofs.Kept.{Keeping}
use Rattle.areas.proofs.deletion.remaining.Given as goal

abbrev pub invariant-loop-p : goal.invariant-loop-p
invariant-loop-p l = Keeping l.fn.deletion l.fn.t.packages l.p-index l.kept l.packages

-- `measured::calls::make_each` meets its contract. The loop's invariant is `TwelveSoFar`: what is left of the rows is a list of calls, and
-- where all are of the twelve, the calls of the rows before i were made and their answers are written. Assumes nothing.
use Rattle.measured.proofs.TwelveLaws.{TwelveSoFar}
use Rattle.measured.proofs.calls.make_each.Given as goal

abbrev pub invariant-loop-i : goal.invariant-loop-i
invariant-loop-i l = TwelveSoFar l.rows l.bytes l.initial.made.state l.initial.store l.initial.answers l.made.state l.store l.answers l.i

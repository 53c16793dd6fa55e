-- `call_list::make_all` meets its contract. The loop's invariant is `MadeSoFar`: the calls of the rows before i were made, their answers are
-- written, what is left of the rows is a list of calls, and the state is sound for the store exactly if it was before the first call, which
-- was checked. Assumes nothing.
use Rattle.call_list.proofs.ListLaws.{MadeSoFar}
use Rattle.call_list.proofs.make_all.Given as goal

abbrev pub invariant-loop-i : goal.invariant-loop-i
invariant-loop-i l = MadeSoFar l.rows l.bytes l.initial.state l.initial.store l.initial.answers l.state l.store l.answers l.i

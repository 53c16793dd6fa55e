-- `start_waves::rounds::add_wave` meets its contract. The loop's invariant is `Adding`: of the first i clusters those that join are listed.
-- Assumes nothing.
use Rattle.start_waves.proofs.Adding.{Adding}
use Rattle.start_waves.proofs.rounds.add_wave.Given as goal

abbrev pub invariant-loop-i : goal.invariant-loop-i
invariant-loop-i l =
    Adding l.closing l.parts l.waits l.size l.number l.initial.count l.initial.waves l.initial.buffer l.count l.waves l.buffer l.i

-- `measured::parts::measured_needs_met` meets its contract. The loop's invariant is `Counted`: at so many of the turns before an index the
-- needs were met. Assumes nothing.
use Rattle.clusters.specs.Table.{needs_met}
use Rattle.clusters.specs.View.{view_table}
use Rattle.measured.proofs.TurnLaws.{Counted}
use Rattle.measured.proofs.parts.measured_needs_met.Given as goal

abbrev pub invariant-loop-turn : goal.invariant-loop-turn
invariant-loop-turn l = Counted (needs_met (view_table l.table)) l.turns l.met l.turn-index

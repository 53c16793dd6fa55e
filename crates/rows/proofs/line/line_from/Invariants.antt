-- `rows::line::line_from` meets its contract. Invariant: the line is what goes on at `i` with `left` commas to come. Assumes nothing.
use mathlib.Core.Path.{◌≡◌}
use lib.ListN.{drop}
use Rattle.rows.specs.Line.{line_from}
use Rattle.rows.proofs.line.line_from.Given as goal

abbrev pub invariant-loop-i : goal.invariant-loop-i
invariant-loop-i l = line_from l.commas l.at (drop l.at l.s) ≡ line_from l.left l.i (drop l.i l.s)

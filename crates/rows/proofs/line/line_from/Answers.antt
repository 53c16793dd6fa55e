-- `rows::line::line_from` meets its contract: a law of `line_from` for each byte that it reads. Assumes nothing.
use Prim.Native.Nat.{◌+◌}
use mathlib.Core.Path.{◌≡◌}
use native.Mathlib.Omega.{arith}
use Rattle.rows.proofs.LineLaws.{line-over, line-ends, line-long, line-comma, line-byte}
use Rattle.rows.proofs.line.line_from.Goals.{in-44+in_ok-left-in-44, in_default}
use Rattle.rows.proofs.line.line_from.Goals as goal

pub returns-in-10 : goal.returns-in-10
returns-in-10 c = search (line-ends, c.then_some.ensures, c.in-10.is)

pub returns-in_err-left-in-44 : goal.returns-in_err-left-in-44
returns-in_err-left-in-44 c = search (line-long, arith, c.in-44.is, c.in_err-left-in-44.ensures)

pub loop-i-preserved : goal.loop-i-preserved
loop-i-preserved c = elim c.match-s-i.branch [
  | in-44+in_ok-left-in-44 w ↦
      let one : c.loop-i.left ≡ c.match-s-i.left + 1 = omega (arith, w.left-is, w.in_ok-left-in-44.ensures) in
      search (line-comma, w.in-44.is)
  | in_default w ↦ search (line-byte, w.left-is)
]

pub returns : goal.returns
returns c = search line-over

-- `text::number::number_goes_on` meets its contract: a law of `number_goes_on` for each way out. Assumes nothing.
use native.Mathlib.Omega.{arith}
use Rattle.text.proofs.NumberLaws.{goes-on-end, goes-on-no-digit, goes-on-zero, goes-on-above, goes-on-digit}
use Rattle.text.proofs.number.number_goes_on.Goals as goal

pub returns-in_default : goal.returns-in_default
returns-in_default c = search (goes-on-no-digit, c.in_default.ensures)

pub returns-then-value-eq0 : goal.returns-then-value-eq0
returns-then-value-eq0 c = search (goes-on-zero, c.in-Some.ensures)

pub returns-then-from-longer : goal.returns-then-from-longer
returns-then-from-longer c = search (goes-on-above, arith, c.in-Some.ensures)

pub loop-i-preserved : goal.loop-i-preserved
loop-i-preserved c = record {
  in_limit = omega arith;
  inside = omega arith;
  same = search (goes-on-digit, arith, c.in-Some.ensures);
}

pub returns : goal.returns
returns c = search (goes-on-end, arith)

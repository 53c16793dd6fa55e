-- `checksum::number` meets its contract: a pair within its limit has a number that fits. Assumes nothing.
use native.Mathlib.Omega.{arith}
use Rattle.checksum.specs.Sum.{sum_number}
use Rattle.checksum.proofs.Laws.{within}
use Rattle.checksum.proofs.number.Goals as goal

pub overflow_mul-result : goal.overflow_mul-result
overflow_mul-result c = omega (arith, within c.args.sums c.requires)

pub overflow_add-result : goal.overflow_add-result
overflow_add-result c = omega (arith, within c.args.sums c.requires)

pub returns : goal.returns
unfolding sum_number
returns c = omega arith

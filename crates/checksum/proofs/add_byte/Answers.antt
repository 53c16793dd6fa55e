-- `checksum::add_byte` meets its contract: a running sum of at most 254 and a byte, or another running sum, are at most 509
-- together, which is the table's last place. Assumes nothing.
use native.Mathlib.Omega.{arith}
use Rattle.checksum.specs.Sum.{step}
use Rattle.checksum.proofs.Laws.{within}
use Rattle.checksum.proofs.add_byte.Goals as goal

pub remainder_255-c0-requires : goal.remainder_255-c0-requires
remainder_255-c0-requires c = (c.requires.0, omega (arith, within c.args.sums c.requires.1))

pub remainder_255-c1-requires : goal.remainder_255-c1-requires
remainder_255-c1-requires c = (c.requires.0, omega (arith, within c.args.sums c.requires.1))

pub returns : goal.returns
unfolding step
returns c = cc

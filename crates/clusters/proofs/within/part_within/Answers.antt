-- `clusters::within::part_within` meets its contract: 32 bits hold no part number above the largest. Assumes nothing.
use native.Mathlib.Omega.{arith}
use mathlib.Core.Bool.{and-true}
use borrow.Author.Tests.{le-leb}
use Rattle.clusters.specs.Cluster.{part_within}
use Rattle.clusters.proofs.within.part_within.Goals as goal

pub returns : goal.returns
unfolding part_within
returns c = rw (le-leb c.args.part 4294967295 (omega arith), and-true)

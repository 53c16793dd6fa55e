-- `clusters::within::need_within` meets its contract: the tests of the definition. Assumes nothing.
use mathlib.Core.Path.{ap₂}
use mathlib.Core.Bool.{◌&&◌}
use Rattle.clusters.specs.Cluster.{need_within}
use Rattle.clusters.proofs.within.need_within.Goals as goal

pub returns : goal.returns
unfolding need_within
returns c = ap₂ ◌&&◌ c.part_within.ensures c.version_within.ensures

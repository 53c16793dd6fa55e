-- `clusters::cluster::with_mark` meets its contract. Assumes nothing.
use mathlib.Core.Path.{refl}
use Rattle.clusters.specs.Exact.{with_mark}
use Rattle.clusters.proofs.cluster.with_mark.Goals as goal

pub returns : goal.returns
unfolding with_mark
returns c = refl

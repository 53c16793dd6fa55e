-- `clusters::cluster::new_cluster` meets its contract. Assumes nothing.
use mathlib.Core.Path.{refl}
use Rattle.clusters.specs.Exact.{new_cluster}
use Rattle.clusters.proofs.cluster.new_cluster.Goals as goal

pub returns : goal.returns
unfolding new_cluster
returns c = refl

-- `manifest::package::bare_cluster` meets its contract: a new cluster with the cleared version. Assumes nothing.
use mathlib.Core.Path.{◌∙◌}
use Rattle.clusters.proofs.Structs.{struct-new-cluster}
use Rattle.manifest.proofs.package.bare_cluster.Goals as goal

pub returns : goal.returns
returns c = c.new_cluster.ensures ∙ struct-new-cluster _ _

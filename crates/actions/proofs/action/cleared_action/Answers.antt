-- `actions::action::cleared_action` meets its contract: a new cluster with no number is the cleared one. Assumes nothing.
use mathlib.Core.Path.{ap}
use Rattle.clusters.specs.declared.cluster.Cluster.{Cluster}
use Rattle.actions.specs.declared.action.Action.{Action}
use Rattle.actions.specs.declared.action.Change.TheVariants.{Install}
use Rattle.clusters.specs.Exact.{new_cluster}
use Rattle.actions.proofs.action.cleared_action.Goals as goal

pub returns : goal.returns
unfolding new_cluster
returns c = ap {B = Action} (λ (cluster : Cluster). record { change = Install; cluster = cluster }) c.new_cluster-cluster.ensures

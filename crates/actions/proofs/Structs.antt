-- The struct of an action with every unused place cleared stands for the action that it was made of. Assumes nothing.
use mathlib.Core.Path.{◌≡◌, refl, ap}
use mathlib.Core.Bool.{true}
use lib.ListN.{length}
use borrow.Author.Tests.{leb-true}
use Rattle.clusters.specs.Cluster.{needs_most}
use Rattle.clusters.specs.Struct.{struct_cluster}
use Rattle.clusters.proofs.Limits.{cluster-few-needs}
use Rattle.clusters.proofs.Structs.{view-struct-cluster}
use Rattle.actions.specs.Action.{Action, install, update, remove, action_within}
use Rattle.actions.specs.View.{view_action}
use Rattle.actions.specs.Struct.{struct_action}

pub view-struct-action : (a : Action) → action_within a ≡ true → view_action (struct_action a) ≡ a
unfolding struct_action action_within
view-struct-action (install c) h = ap install (view-struct-cluster c (leb-true (length c.needs) needs_most (cluster-few-needs c h)))
view-struct-action (update c) h = ap update (view-struct-cluster c (leb-true (length c.needs) needs_most (cluster-few-needs c h)))
view-struct-action (remove part) h = ap remove (unfold struct_cluster in refl)

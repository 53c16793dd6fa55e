-- The struct of an action as the plain action that it stands for.
use Rattle.clusters.specs.Cluster.{Cluster}
use Rattle.clusters.specs.View.{view_cluster}
use Rattle.actions.specs.declared.action.Change.{Change}
use Rattle.actions.specs.declared.action.Change.TheVariants.{Install, Update, Remove}
use Rattle.actions.specs.declared.action.Action.{Action as ActionStruct}
use Rattle.actions.specs.Action.{Action, install, update, remove}

-- a change to a cluster, as an action: the definition for each case of the enum
abbrev pub action_of : Change → Cluster → Action
action_of Install c = install c
action_of Update c = update c
action_of Remove c = remove c.part

-- the action that a struct stands for
abbrev pub view_action : ActionStruct → Action
view_action a = action_of a.change (view_cluster a.cluster)

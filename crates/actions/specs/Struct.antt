-- The struct that stands for a plain action with every unused place cleared: what the reader of packages builds.
use Rattle.std.specs.Prelude.{[]}
use Rattle.clusters.specs.Cluster.{cluster}
use Rattle.clusters.specs.View.{no_version}
use Rattle.clusters.specs.Struct.{cleared_cluster, struct_cluster}
use Rattle.actions.specs.declared.action.Change.TheVariants.{Install, Update, Remove}
use Rattle.actions.specs.declared.action.Action.{Action as ActionStruct}
use Rattle.actions.specs.Action.{Action, install, update, remove}

-- an action's struct
unfoldable pub struct_action : Action → ActionStruct
struct_action (install c) = record { change = Install; cluster = struct_cluster c }
struct_action (update c) = record { change = Update; cluster = struct_cluster c }
struct_action (remove part) = record { change = Remove; cluster = struct_cluster (cluster part no_version []) }

-- an action with every number 0 and no needs
abbrev pub cleared_action : ActionStruct
cleared_action = record { change = Install; cluster = cleared_cluster }

-- The struct that stands for a plain value with every unused place cleared: what the readers of text build.
use Rattle.std.specs.Prelude.{ℕ, ◌-◌, false, List, ◌++◌, map, length, replicate}
use Rattle.clusters.specs.declared.cluster.Cluster.{Cluster as ClusterStruct}
use Rattle.clusters.specs.declared.table.Table.{Table as TableStruct}
use Rattle.clusters.specs.Cluster.{Cluster, needs_most}
use Rattle.clusters.specs.Table.{Table, clusters_most}
use Rattle.clusters.specs.View.{no_version, no_need}

-- the elements, and then the cleared one up to the array's room
abbrev pub padded : {A : Type 0} → ℕ → A → List A → List A
padded most cleared elements = elements ++ replicate (most - length elements) cleared

-- a cluster's struct
unfoldable pub struct_cluster : Cluster → ClusterStruct
struct_cluster c =
    record { part = c.part; version = c.version; needs = padded needs_most no_need c.needs; need_count = length c.needs; stays = c.stays }

-- the value of an unused place of a table
abbrev pub cleared_cluster : ClusterStruct
cleared_cluster = record { part = 0; version = no_version; needs = replicate needs_most no_need; need_count = 0; stays = false }

-- a table's struct
unfoldable pub struct_table : Table → TableStruct
struct_table t = record { clusters = padded clusters_most cleared_cluster (map struct_cluster t); count = length t }

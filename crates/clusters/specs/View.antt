-- The structs as the plain values that they stand for.
use Rattle.std.specs.Prelude.{false, [], map}
use Rattle.base.specs.Counted.{counted}
use Rattle.text.specs.declared.version.Version.{Version}
use Rattle.text.specs.Version.{version}
use Rattle.clusters.specs.declared.cluster.Need.{Need}
use Rattle.clusters.specs.declared.cluster.Cluster.{Cluster as ClusterStruct}
use Rattle.clusters.specs.declared.table.Table.{Table as TableStruct}
use Rattle.clusters.specs.Cluster.{Cluster, marked_cluster, need, needs_most}
use Rattle.clusters.specs.Table.{Table, clusters_most}

-- the value of an unused place
abbrev pub no_version : Version
no_version = version 0 0 0 0

abbrev pub no_need : Need
no_need = need 0 no_version

abbrev pub no_cluster : ClusterStruct
no_cluster = record { part = 0; version = no_version; needs = []; need_count = 0; stays = false }

-- the needs that count
abbrev pub view_cluster : ClusterStruct → Cluster
view_cluster c = marked_cluster c.part c.version (counted needs_most no_need c.need_count c.needs) c.stays

-- the clusters that count
abbrev pub view_table : TableStruct → Table
view_table t = map view_cluster (counted clusters_most no_cluster t.count t.clusters)

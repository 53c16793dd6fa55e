-- The part numbers, versions and marks of a table, in its order.
use Rattle.std.specs.Prelude.{◌≤◌, ◌≡◌, Bool, map, length, take}
use Rattle.text.specs.declared.version.Version.{Version}
use Rattle.clusters.specs.declared.columns.Columns.{Columns}
use Rattle.clusters.specs.Cluster.{Cluster}
use Rattle.clusters.specs.Table.{Table, clusters_most}
use Rattle.clusters.specs.Place.{part_of}

-- the column of versions has this of each cluster
abbrev pub version_of : Cluster → Version
version_of c = c.version

-- the column of marks has this of each cluster
abbrev pub mark_of : Cluster → Bool
mark_of c = c.stays

-- the columns are those of the table
pub record ColumnsOf (columns : Columns) (t : Table) : Type 0 where
  pub few : columns.count ≤ clusters_most
  pub size : columns.count ≡ length t
  pub parts : take columns.count columns.parts ≡ map part_of t
  pub versions : take columns.count columns.versions ≡ map version_of t
  pub marks : take columns.count columns.marks ≡ map mark_of t

-- The places of the clusters that a cluster waits for, looked up once.
use Rattle.std.specs.Prelude.{ℕ, ◌<◌, ◌+◌, ◌*◌, ◌≡◌, true, List, [], map, length, take, get_or, unwrap_or}
use Rattle.std.proofs.Math.Option.{Option, none, some}
use Rattle.std.proofs.Math.ListN.{get_elem?}
use Rattle.clusters.specs.declared.cluster.Need.{Need}
use Rattle.clusters.specs.declared.table.Table.{Table as TableStruct}
use Rattle.clusters.specs.Cluster.{Cluster, cluster, needs_most}
use Rattle.clusters.specs.Table.{Table, clusters_most, table_within}
use Rattle.clusters.specs.View.{no_version, view_table}
use Rattle.clusters.specs.Place.{place_of, part_of}

-- the cluster at a place of a table
abbrev pub cluster_at : Table → ℕ → Cluster
cluster_at t i = get_or t i (cluster 0 no_version [])

-- where a cluster stands that may be needed: behind every place where it is absent, at the own place where nothing is needed
unfoldable pub wait_place : Table → ℕ → Option Need → ℕ
wait_place t own none = own
wait_place t own (some n) = unwrap_or (place_of n.part t) clusters_most

-- the place that a cluster at the place own waits for by its need j
abbrev pub wait_by : Table → ℕ → Cluster → ℕ → ℕ
wait_by t own c j = wait_place t own (get_elem? c.needs j)

-- the place that the cluster at a place waits for by its need j. A need of itself gives its own place too, which counts for nothing
abbrev pub wait_at : Table → ℕ → ℕ → ℕ
wait_at t own j = wait_by t own (cluster_at t own) j

-- the part numbers of a table within its limits stand in the first places of a column with room for every table
abbrev pub PartsOf : List ℕ → TableStruct → Type 0
PartsOf parts t = (table_within (view_table t) ≡ true) × (length parts ≡ clusters_most) × (take t.count parts ≡ map part_of (view_table t))

-- the places are those of the table: room for each need of each cluster
unfoldable pub WaitsOf : List ℕ → Table → ℕ → Type 0
WaitsOf places t size = (own j : ℕ) → own < size → j < needs_most → get_or places (own * needs_most + j) 0 ≡ wait_at t own j

-- a place for each need of each cluster
abbrev pub waits_most : ℕ
waits_most = clusters_most * needs_most

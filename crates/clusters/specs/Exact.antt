-- The structs that the functions give, unused places included. proofs/Views.antt has what they stand for.
use Rattle.std.specs.Prelude.{ℕ, ◌+◌, Bool, false, List, ◌∷◌, ◌++◌, take, drop, replicate}
use Rattle.text.specs.declared.version.Version.{Version}
use Rattle.clusters.specs.declared.cluster.Need.{Need}
use Rattle.clusters.specs.declared.cluster.Cluster.{Cluster}
use Rattle.clusters.specs.declared.table.Table.{Table}
use Rattle.clusters.specs.Cluster.{needs_most}
use Rattle.clusters.specs.Table.{clusters_most}
use Rattle.clusters.specs.View.{no_need}
use Rattle.clusters.specs.Struct.{cleared_cluster}

-- an array whose place i has the value x
abbrev pub put_at : {A : Type 0} → ℕ → A → List A → List A
put_at i x xs = take i xs ++ x ∷ drop (i + 1) xs

-- ---- clusters

-- a cluster with no needs and mark 0
unfoldable pub new_cluster : ℕ → Version → Cluster
new_cluster part version = record { part = part; version = version; needs = replicate needs_most no_need; need_count = 0; stays = false }

-- a cluster with one need more, behind the others
unfoldable pub with_need : Cluster → Need → Cluster
with_need c n =
    record { part = c.part; version = c.version; needs = put_at c.need_count n c.needs; need_count = c.need_count + 1; stays = c.stays }

-- a cluster with this mark
unfoldable pub with_mark : Cluster → Bool → Cluster
with_mark c stays = record { part = c.part; version = c.version; needs = c.needs; need_count = c.need_count; stays = stays }

-- ---- tables

-- a table with no clusters
unfoldable pub empty_table : Table
empty_table = record { clusters = replicate clusters_most cleared_cluster; count = 0 }

-- a cluster behind the last
unfoldable pub append : Table → Cluster → Table
append t c = record { clusters = put_at t.count c t.clusters; count = t.count + 1 }

-- Tables of clusters.
use Rattle.std.specs.Prelude.{ℕ, Bool, true, false, cond, ◌&&◌, List, [], ◌∷◌, eqb, leb, ltb, length}
use Rattle.std.proofs.Math.Option.{Option, none, some}
use Rattle.clusters.specs.declared.cluster.Need.{Need}
use Rattle.clusters.specs.Version.{fulfils}
use Rattle.clusters.specs.Cluster.{Cluster, cluster_within}

-- "Two tables are equal when they have the same clusters with equal versions and needs", A.2: "only with equal marks": equal lists
abbrev pub Table : Type 0
Table = List Cluster

-- the cluster with a part number
unfoldable pub find : ℕ → Table → Option Cluster
find part [] = none
find part (c ∷ t) = cond (eqb part c.part) (some c) (find part t)

-- "It is met by a table that holds that cluster at the least version or above", A.5: "and has the same first part"
unfoldable pub meets : Table → Need → Bool
meets t n = elim (find n.part t) [ none ↦ false | some c ↦ fulfils c.version n.least ]

-- each of these needs is met by the table
unfoldable pub meets_all : Table → List Need → Bool
meets_all t [] = true
meets_all t (n ∷ ns) = meets t n && meets_all t ns

-- the needs of each of these clusters are met by the table
unfoldable pub needs_met_of : Table → List Cluster → Bool
needs_met_of t [] = true
needs_met_of t (c ∷ cs) = meets_all t c.needs && needs_met_of t cs

-- all needs of all clusters of a table are met in that table
unfoldable pub needs_met : Table → Bool
needs_met t = needs_met_of t t

-- clusters within their limits, in rising part number from above `last`
unfoldable pub rising_above : ℕ → Table → Bool
rising_above last [] = true
rising_above last (c ∷ t) = ltb last c.part && (cluster_within c && rising_above c.part t)

-- "at most 64 clusters"
abbrev pub clusters_most : ℕ
clusters_most = 64

-- "A table has at most 64 clusters in rising part number."
unfoldable pub table_within : Table → Bool
table_within t = leb (length t) clusters_most && rising_above 0 t

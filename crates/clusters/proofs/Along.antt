-- How a loop goes along the needs of a cluster and the clusters of a table. Assumes nothing.
use Prim.Native.Nat.{ℕ, ◌+◌, ◌≤◌, ◌<◌}
use mathlib.Core.Path.{◌≡◌, ap, ◌∙◌}
use mathlib.Core.Bool.{true, false}
use mathlib.Core.List.{List, [], ◌∷◌, map}
use native.Mathlib.Numerals.{add-one}
use native.Mathlib.Omega.{arith}
use lib.Dec.{leb}
use lib.ListN.{length, take, drop, get_or, length-map, length-take, get_or-map, drop_of_length-le}
use lib.Seq.{drop-cons, get_or-take}
use borrow.Author.Tests.{le-leb, lt-leb}
use Rattle.base.proofs.Counted.{counted-few, counted-fits, seen_step, seen_end, from_step, from_end}
use Rattle.clusters.specs.declared.cluster.Cluster.{Cluster}
use Rattle.clusters.specs.declared.cluster.Cluster.{Cluster as ClusterStruct}
use Rattle.clusters.specs.declared.table.Table.{Table}
use Rattle.clusters.specs.Cluster.{needs_most}
use Rattle.clusters.specs.Table.{clusters_most}
use Rattle.clusters.specs.View.{no_need, no_cluster, view_cluster, view_table}

pub view-few : (t : Table) → t.count ≤ clusters_most → view_table t ≡ map view_cluster (take t.count t.clusters)
view-few t few = ap (map view_cluster) (counted-few clusters_most t.count no_cluster t.clusters few)

-- the clusters that a slice has from i on, as a loop goes along it
module _ (cs : List ClusterStruct) where
  pub seen-next : (i : ℕ) (d : ClusterStruct) → i < length cs → map view_cluster (drop i cs) ≡ view_cluster (get_or cs i d) ∷ map view_cluster (drop (i + 1) cs)
  seen-next i d h = rw (drop-cons cs i d h, add-one)

  pub seen-last : (i : ℕ) → length cs ≤ i → map view_cluster (drop i cs) ≡ []
  seen-last i h = ap (map view_cluster) (drop_of_length-le cs {i = i} h)

module _ (t : Table) (few : t.count ≤ clusters_most) (long : length t.clusters ≡ clusters_most) where
  pub table_step : (i : ℕ) → i < t.count → drop i (view_table t) ≡ view_cluster (get_or t.clusters i no_cluster) ∷ drop (i + 1) (view_table t)
  table_step i h = rw (view-few t few) (from_step view_cluster t.clusters t.count (omega arith) i no_cluster h)

  pub table-end : (i : ℕ) → t.count ≤ i → drop i (view_table t) ≡ []
  table-end i h = rw (view-few t few) (from_end view_cluster t.clusters t.count (omega arith) i h)

  pub table_at : (i : ℕ) → i < t.count → get_or (view_table t) i (view_cluster no_cluster) ≡ view_cluster (get_or t.clusters i no_cluster)
  table_at i h =
      rw (view-few t few)
      (get_or-map view_cluster (take t.count t.clusters) i no_cluster ∙ ap view_cluster (get_or-take t.count t.clusters i no_cluster h))

  pub table-length : length (view_table t) ≡ t.count
  table-length = rw (view-few t few) (simp (length-map, length-take) (omega arith))

pub needs-few : (c : Cluster) → c.need_count ≤ needs_most → (view_cluster c).needs ≡ take c.need_count c.needs
needs-few c few = counted-few needs_most c.need_count no_need c.needs few

module _ (c : Cluster) (few : c.need_count ≤ needs_most) (long : length c.needs ≡ needs_most) where
  pub needs-step : (i : ℕ) → i < c.need_count → drop i (view_cluster c).needs ≡ get_or c.needs i no_need ∷ drop (i + 1) (view_cluster c).needs
  needs-step i h = rw (needs-few c few) (seen_step c.needs c.need_count (omega arith) i no_need h)

  pub needs-end : (i : ℕ) → c.need_count ≤ i → drop i (view_cluster c).needs ≡ []
  needs-end i h = rw (needs-few c few) (seen_end c.needs c.need_count (omega arith) i h)

-- ---- whether the count fits, by the list's length

pub needs-count : (c : Cluster) → leb (length (view_cluster c).needs) needs_most ≡ leb c.need_count needs_most
needs-count c = counted-fits needs_most c.need_count no_need c.needs

pub needs-fit : (c : Cluster) → c.need_count ≤ needs_most → leb (length (view_cluster c).needs) needs_most ≡ true
needs-fit c h = needs-count c ∙ le-leb c.need_count needs_most h

pub needs-too-many : (c : Cluster) → needs_most < c.need_count → leb (length (view_cluster c).needs) needs_most ≡ false
needs-too-many c h = needs-count c ∙ lt-leb c.need_count needs_most h

pub table-count : (t : Table) → leb (length (view_table t)) clusters_most ≡ leb t.count clusters_most
table-count t = rw (length-map _ view_cluster) (counted-fits clusters_most t.count no_cluster t.clusters)

pub clusters-fit : (t : Table) → t.count ≤ clusters_most → leb (length (view_table t)) clusters_most ≡ true
clusters-fit t h = table-count t ∙ le-leb t.count clusters_most h

pub clusters-too-many : (t : Table) → clusters_most < t.count → leb (length (view_table t)) clusters_most ≡ false
clusters-too-many t h = table-count t ∙ lt-leb t.count clusters_most h

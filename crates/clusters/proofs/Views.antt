-- The structs of specs/Exact.antt as the plain values that they stand for. Assumes nothing.
use Prim.Native.Nat.{ℕ, ◌+◌, ◌≤◌, ◌<◌}
use mathlib.Core.Path.{◌≡◌, refl, sym, ap, ◌∙◌}
use mathlib.Core.Bool.{Bool, true}
use mathlib.Core.List.{List, [], ◌∷◌, ◌++◌, map, map-append}
use native.Mathlib.Omega.{arith}
use lib.Dec.{leb}
use lib.ListN.{length, take, get_or}
use borrow.Author.Tests.{leb-true}
use Rattle.base.proofs.Tests.{and_left}
use Rattle.base.proofs.Counted.{counted-few}
use Rattle.text.specs.declared.version.Version.{Version}
use Rattle.clusters.specs.declared.cluster.Need.{Need}
use Rattle.clusters.specs.declared.cluster.Cluster.{Cluster as ClusterStruct}
use Rattle.clusters.specs.declared.table.Table.{Table as TableStruct}
use Rattle.clusters.specs.Cluster.{cluster, marked_cluster, with_need, with_mark, needs_most, cluster_within}
use Rattle.clusters.specs.Table.{Table, table_within, rising_above, clusters_most}
use Rattle.clusters.specs.View.{no_need, no_cluster, view_cluster, view_table}
use Rattle.clusters.specs.Exact as exact
use Rattle.clusters.proofs.Limits.{rising-clusters, cluster-at-within, cluster-few-needs}
use Rattle.clusters.proofs.Arrays.{first-put}
use Rattle.clusters.proofs.Along.{view-few, table_at, table-length, table-count, needs-count}

-- ---- clusters

pub view-new-cluster : (part : ℕ) (version : Version) → view_cluster (exact.new_cluster part version) ≡ cluster part version []
unfolding exact.new_cluster
view-new-cluster part version = refl

pub view-with-need : (c : ClusterStruct) (n : Need) → c.need_count < needs_most → view_cluster (exact.with_need c n) ≡ with_need (view_cluster c) n
unfolding exact.with_need
view-with-need c n h =
    ap (λ (needs : List Need). marked_cluster c.part c.version needs c.stays)
    (counted-few needs_most (c.need_count + 1) no_need (exact.put_at c.need_count n c.needs) (omega arith)
    ∙ first-put c.need_count n c.needs
    ∙ ap (λ (l : List Need). l ++ n ∷ []) (sym (counted-few needs_most c.need_count no_need c.needs (omega arith))))

pub view-with-mark : (c : ClusterStruct) (stays : Bool) → view_cluster (exact.with_mark c stays) ≡ with_mark (view_cluster c) stays
unfolding exact.with_mark
view-with-mark c stays = refl

-- ---- tables

-- a table within its limits has a count that fits
pub few-of-within : (t : TableStruct) → table_within (view_table t) ≡ true → t.count ≤ clusters_most
unfolding table_within
few-of-within t h = leb-true t.count clusters_most (sym (table-count t) ∙ and_left (leb (length (view_table t)) clusters_most) (rising_above 0 (view_table t)) h)

-- and so have its clusters
pub few-needs-at : (t : TableStruct) (i : ℕ) → table_within (view_table t) ≡ true → length t.clusters ≡ clusters_most → i < t.count
    → (get_or t.clusters i no_cluster).need_count ≤ needs_most
few-needs-at t i h long l =
    let few = few-of-within t h in
    let c = get_or t.clusters i no_cluster in
    let fine : cluster_within (view_cluster c) ≡ true = rw (table_at t few long i l) at (cluster-at-within 0 (view_table t) i (view_cluster no_cluster) (rising-clusters (view_table t) h) (rw (table-length t few long) l)) in
    leb-true c.need_count needs_most (sym (needs-count c) ∙ cluster-few-needs (view_cluster c) fine)

pub view-empty : view_table exact.empty_table ≡ []
unfolding exact.empty_table
view-empty = refl

pub view-append : (t : TableStruct) (c : ClusterStruct) → t.count < clusters_most → view_table (exact.append t c) ≡ view_table t ++ view_cluster c ∷ []
unfolding exact.append
view-append t c h =
    ap (map view_cluster) (counted-few clusters_most (t.count + 1) no_cluster (exact.put_at t.count c t.clusters) (omega arith) ∙ first-put t.count c t.clusters)
    ∙ map-append view_cluster (take t.count t.clusters) (c ∷ [])
    ∙ ap (λ (l : Table). l ++ view_cluster c ∷ []) (sym (view-few t (omega arith)))

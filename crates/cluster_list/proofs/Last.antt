-- The last cluster of a table: which it is, its part number, and a need added to it. Assumes nothing.
use Prim.Native.Nat.{◌≤◌, ◌<◌}
use mathlib.Core.Path.{◌≡◌, refl, ap}
use mathlib.Core.List.{[], ◌∷◌, ◌++◌}
use mathlib.Core.Option.{none, some}
use lib.ListN.{length}
use borrow.Author.Tests.{lt-leb, le-leb}
use Rattle.clusters.specs.declared.cluster.Need.{Need}
use Rattle.clusters.specs.Cluster.{Cluster, with_need, needs_most}
use Rattle.clusters.specs.Table.{Table, clusters_most}
use Rattle.cluster_list.specs.Read.{last_cluster, last_part, need_added, cluster_added}

pub last-cluster : (front : Table) (c : Cluster) → last_cluster (front ++ c ∷ []) ≡ c
last-cluster [] c = refl
last-cluster (d ∷ []) c = refl
last-cluster (d ∷ e ∷ front) c = last-cluster (e ∷ front) c

pub last-part : (front : Table) (c : Cluster) → last_part (front ++ c ∷ []) ≡ c.part
unfolding last_part
last-part front c = ap (λ (d : Cluster). d.part) (last-cluster front c)

module _ (c : Cluster) (n : Need) where
  pub need-added : (front : Table) → length c.needs < needs_most → need_added (front ++ c ∷ []) n ≡ some (front ++ with_need c n ∷ [])
  unfolding need_added
  need-added [] h = rw (lt-leb needs_most (length c.needs) h)
  need-added (d ∷ []) h = rw (lt-leb needs_most (length c.needs) h)
  need-added (d ∷ e ∷ front) h = rw (need-added (e ∷ front) h)

  pub need-too-many : (front : Table) → needs_most ≤ length c.needs → need_added (front ++ c ∷ []) n ≡ none
  unfolding need_added
  need-too-many [] h = rw (le-leb needs_most (length c.needs) h)
  need-too-many (d ∷ []) h = rw (le-leb needs_most (length c.needs) h)
  need-too-many (d ∷ e ∷ front) h = rw (need-too-many (e ∷ front) h)

module _ (t : Table) (c : Cluster) where
  pub cluster-full : clusters_most ≤ length t → cluster_added t c ≡ none
  unfolding cluster_added
  cluster-full h = rw (le-leb clusters_most (length t) h)

  module _ (h : length t < clusters_most) where
    pub cluster-not-above : c.part ≤ last_part t → cluster_added t c ≡ none
    unfolding cluster_added
    cluster-not-above o = rw (lt-leb clusters_most (length t) h, le-leb c.part (last_part t) o)

    pub cluster-added : last_part t < c.part → cluster_added t c ≡ some (t ++ c ∷ [])
    unfolding cluster_added
    cluster-added o = rw (lt-leb clusters_most (length t) h, lt-leb c.part (last_part t) o)

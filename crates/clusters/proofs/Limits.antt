-- A table within its limits, and a rising one, taken apart and put together. Assumes nothing.
use mathlib.Core.Path.{◌≡◌}
use mathlib.Core.Bool.{true}
use mathlib.Core.List.{[], ◌∷◌}
use Prim.Native.Nat.{ℕ, zero, suc, ◌≤◌, ◌<◌}
use native.Mathlib.Omega.{arith}
use lib.Dec.{leb, ltb}
use lib.ListN.{length, get_or}
use borrow.Author.Tests.{ltb-true, leb-true, lt-ltb, le-leb}
use Rattle.base.proofs.Tests.{and_left, and_right, and_both}
use Rattle.text.specs.Version.{version_within}
use Rattle.clusters.specs.Cluster.{Cluster, part_within, cluster_within, needs_most}
use Rattle.clusters.specs.Table.{Table, rising_above, table_within, clusters_most}

-- a rising table, taken apart and put together
pub record Rising (last : ℕ) (c : Cluster) (t : Table) : Type 0 where
  pub over : last < c.part
  pub within : cluster_within c ≡ true
  pub rest : rising_above c.part t ≡ true

pub rising-says : (last : ℕ) (c : Cluster) (t : Table) → rising_above last (c ∷ t) ≡ true → Rising last c t
unfolding rising_above
rising-says last c t h =
    let r = and_right (ltb last c.part) _ h in
    record { over = ltb-true _ _ (and_left _ _ h); within = and_left (cluster_within c) _ r; rest = and_right (cluster_within c) _ r }

pub rising-is : (last : ℕ) (c : Cluster) (t : Table) → Rising last c t → rising_above last (c ∷ t) ≡ true
unfolding rising_above
rising-is last c t r = and_both (ltb last c.part) _ (lt-ltb _ _ r.over) (and_both (cluster_within c) _ r.within r.rest)

pub few-clusters : (t : Table) → table_within t ≡ true → length t ≤ clusters_most
unfolding table_within
few-clusters t h = leb-true (length t) clusters_most (and_left _ (rising_above 0 t) h)

pub rising-clusters : (t : Table) → table_within t ≡ true → rising_above 0 t ≡ true
unfolding table_within
rising-clusters t h = and_right (leb (length t) clusters_most) _ h

pub table-is-within : (t : Table) → length t ≤ clusters_most → rising_above 0 t ≡ true → table_within t ≡ true
unfolding table_within
table-is-within t few rising = and_both (leb (length t) clusters_most) _ (le-leb (length t) clusters_most few) rising

-- each cluster of a rising table is within its limits
pub cluster-at-within : (last : ℕ) (t : Table) (i : ℕ) (d : Cluster) → rising_above last t ≡ true → i < length t → cluster_within (get_or t i d) ≡ true
cluster-at-within last [] i d h l = absurd (omega arith)
cluster-at-within last (c ∷ t) zero d h l = (rising-says last c t h).within
cluster-at-within last (c ∷ t) (suc i) d h l = cluster-at-within c.part t i d (rising-says last c t h).rest (omega arith)

pub cluster-few-needs : (c : Cluster) → cluster_within c ≡ true → leb (length c.needs) needs_most ≡ true
unfolding cluster_within
cluster-few-needs c h = and_left (leb (length c.needs) needs_most) _ (and_right (version_within c.version) _ (and_right (part_within c.part) _ h))

-- A cluster with the need that stands on its line, or without one: what the code makes of it, and that it has at most one need.
-- Assumes nothing.
use Prim.Native.Nat.{ℕ, ◌≤◌, ◌<◌}
use mathlib.Core.Path.{◌≡◌}
use mathlib.Core.List.{[]}
use native.Mathlib.Omega.{arith}
use lib.ListN.{length}
use Rattle.std.specs.Prelude.{Option, Some, None}
use Rattle.text.specs.declared.version.Version.{Version}
use Rattle.clusters.specs.declared.cluster.Need.{Need}
use Rattle.clusters.specs.declared.cluster.Cluster.{Cluster as ClusterStruct}
use Rattle.clusters.specs.Cluster.{needs_most, cluster}
use Rattle.clusters.specs.Struct.{struct_cluster}
use Rattle.clusters.specs.Exact.{new_cluster, with_need}
use Rattle.clusters.proofs.Structs.{struct-new-cluster, struct-with-need}
use Rattle.cluster_list.specs.Cells.{needs_filled}

pub few-filled : (need : Option Need) → length (needs_filled need) ≤ 1
few-filled (Some n) = omega arith
few-filled None = omega arith

-- x is the cluster with no needs
pub new-room : (part : ℕ) (version : Version) (x : ClusterStruct) → x ≡ new_cluster part version → x.need_count < needs_most
unfolding new_cluster
new-room part version x e = rw e (omega arith)

module _ (part : ℕ) (version : Version) (need : Option Need) (x : ClusterStruct) (new : x ≡ new_cluster part version) where
  pub no-first-need : need ≡ None → x ≡ struct_cluster (cluster part version (needs_filled need))
  no-first-need e = rw (new, e) (struct-new-cluster part version)

  pub first-need : (n : Need) (y : ClusterStruct) → y ≡ with_need x n → need ≡ Some n
      → y ≡ struct_cluster (cluster part version (needs_filled need))
  first-need n y q e =
      rw (q, new, e, struct-new-cluster part version)
      (struct-with-need (cluster part version []) n (omega arith))

-- `clusters::columns::Columns::of` meets its contract. The loop's invariant: the first i places of each column are those of the
-- first i clusters. Assumes nothing.
use mathlib.Core.Path.{◌≡◌}
use mathlib.Core.Bool.{Bool}
use mathlib.Core.List.{map}
use Prim.Native.Nat.{ℕ}
use lib.ListN.{length, take}
use Rattle.text.specs.declared.version.Version.{Version}
use Rattle.clusters.specs.declared.cluster.Cluster.{Cluster}
use Rattle.clusters.proofs.columns.Columns.of.Given as goal

abbrev pub struct_part : Cluster → ℕ
struct_part c = c.part

abbrev pub struct_version : Cluster → Version
struct_version c = c.version

abbrev pub struct_mark : Cluster → Bool
struct_mark c = c.stays

abbrev pub invariant-loop-i : goal.invariant-loop-i
invariant-loop-i l =
    (length l.parts ≡ 64)
    × (length l.versions ≡ 64)
    × (length l.marks ≡ 64)
    × (take l.i l.parts ≡ map struct_part (take l.i l.t.clusters))
    × (take l.i l.versions ≡ map struct_version (take l.i l.t.clusters))
    × (take l.i l.marks ≡ map struct_mark (take l.i l.t.clusters))

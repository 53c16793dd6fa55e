-- `clusters::table::append` meets its contract: the store at the place behind the clusters. Assumes nothing.
use borrow.Author.Rules.{rules}
use native.Mathlib.Omega.{arith}
use mathlib.Core.Path.{◌≡◌, ap}
use mathlib.Core.List.{List}
use Prim.Native.Nat.{◌+◌}
use lib.ListN.{length}
use Rattle.base.proofs.Counted.{unmapped}
use Rattle.clusters.specs.declared.cluster.Cluster.{Cluster}
use Rattle.clusters.specs.declared.table.Table.{Table}
use Rattle.clusters.specs.Exact.{append}
use Rattle.clusters.proofs.Arrays.{set-put}
use Rattle.clusters.proofs.table.append.Goals.{Start}
use Rattle.clusters.proofs.table.append.Goals as goal

long : (c : Start) → length c.args.t.clusters ≡ 64
long c = search (rules, unmapped)

pub returns : goal.returns
unfolding append
returns c =
    let t = c.args.t in
    ap {B = Table} (λ (clusters : List Cluster). record { clusters = clusters; count = t.count + 1 })
    (set-put t.clusters t.count c.args.c (omega (arith, long (goal.at.returns c).Start)))

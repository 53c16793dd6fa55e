-- `clusters::cluster::with_need` meets its contract: the store at the place behind the needs. Assumes nothing.
use borrow.Author.Rules.{rules}
use native.Mathlib.Omega.{arith}
use mathlib.Core.Path.{◌≡◌, ap}
use mathlib.Core.List.{List}
use Prim.Native.Nat.{◌+◌}
use lib.ListN.{length}
use Rattle.base.proofs.Counted.{unmapped}
use Rattle.clusters.specs.declared.cluster.Need.{Need}
use Rattle.clusters.specs.declared.cluster.Cluster.{Cluster}
use Rattle.clusters.specs.Exact.{with_need}
use Rattle.clusters.proofs.Arrays.{set-put}
use Rattle.clusters.proofs.cluster.with_need.Goals.{Start}
use Rattle.clusters.proofs.cluster.with_need.Goals as goal

long : (c : Start) → length c.args.c.needs ≡ 4
long c = search (rules, unmapped)

pub returns : goal.returns
unfolding with_need
returns c =
    let k = c.args.c in
    ap {B = Cluster} (λ (rules : List Need). record { part = k.part; version = k.version; needs = rules; need_count = k.need_count + 1; stays = k.stays })
    (set-put k.needs k.need_count c.args.n (omega (arith, long (goal.at.returns c).Start)))

-- `actions::place::insert_at` meets its contract: the clusters from the place on are copied up by one. Assumes nothing.
use borrow.Author.Rules.{rules}
use native.Mathlib.Omega.{arith}
use mathlib.Core.Path.{◌≡◌, ap, ◌∙◌}
use mathlib.Core.List.{List}
use Prim.Native.Nat.{◌+◌}
use lib.ListN.{length, set}
use Rattle.base.proofs.Counted.{unmapped}
use Rattle.clusters.specs.declared.cluster.Cluster.{Cluster}
use Rattle.clusters.specs.declared.table.Table.{Table}
use Rattle.actions.specs.Exact.{insert_at}
use Rattle.actions.proofs.Arrays.{moved-up}
use Rattle.actions.proofs.place.insert_at.Goals.{Start}
use Rattle.actions.proofs.place.insert_at.Goals as goal

long : (c : Start) → length c.args.t.clusters ≡ 64
long c = search (rules, unmapped)

pub returns : goal.returns
unfolding insert_at
returns c =
    let t = c.args.t in
    let place = c.args.place in
    ap {B = Table} (λ (clusters : List Cluster). record { clusters = clusters; count = t.count + 1 })
    (ap (λ (l : List Cluster). set l place c.args.c) c.copy_within.ensures.after
    ∙ moved-up place t.count c.args.c t.clusters c.requires.1 (omega (arith, long (goal.at.returns c).Start)))

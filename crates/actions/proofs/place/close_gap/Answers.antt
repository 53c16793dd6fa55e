-- `actions::place::close_gap` meets its contract: the clusters behind the place are copied down by one. Assumes nothing.
use mathlib.Core.Path.{ap, ◌∙◌}
use mathlib.Core.List.{List}
use Prim.Native.Nat.{◌-◌}
use Rattle.clusters.specs.declared.cluster.Cluster.{Cluster}
use Rattle.clusters.specs.declared.table.Table.{Table}
use Rattle.actions.specs.Exact.{close_gap}
use Rattle.actions.proofs.Arrays.{moved-down}
use Rattle.actions.proofs.place.close_gap.Goals as goal

pub returns : goal.returns
unfolding close_gap
returns c =
    let t = c.args.t in
    ap {B = Table} (λ (clusters : List Cluster). record { clusters = clusters; count = t.count - 1 })
    (c.copy_within.ensures.after ∙ moved-down c.args.place t.count t.clusters c.requires.1)

-- `clusters::within::table_within` meets its contract: a ladder of tests as in the definition. Assumes nothing.
use mathlib.Core.Path.{◌≡◌, ◌∙◌}
use mathlib.Core.Bool.{false}
use borrow.Author.Tests.{lt-leb}
use Rattle.base.proofs.Ladder.{told-ladder}
use Rattle.clusters.specs.Table.{table_within, clusters_most}
use Rattle.clusters.specs.View.{view_table}
use Rattle.clusters.proofs.Along.{clusters-fit, clusters-too-many}
use Rattle.clusters.proofs.within.table_within.Goals as goal

pub returns-else-t-le-CLUSTERS_MOST : goal.returns-else-t-le-CLUSTERS_MOST
unfolding table_within
returns-else-t-le-CLUSTERS_MOST c =
    let h = c.if-t-le-CLUSTERS_MOST.false in
    let e : false ≡ table_within (view_table c.args.t) = search (told-ladder, clusters-too-many) in
    lt-leb c.args.t.count clusters_most h ∙ e

pub returns-then-t-le-CLUSTERS_MOST : goal.returns-then-t-le-CLUSTERS_MOST
unfolding table_within
returns-then-t-le-CLUSTERS_MOST c = search (told-ladder, clusters-fit)

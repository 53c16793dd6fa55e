-- `clusters::table::find` meets its contract: the place among the clusters that count is that in the table. Assumes nothing.
use Rattle.std.proofs.Common.{rules, tests, ◌∙◌, take}
use lib.Dec.{eqb}
use Rattle.std.proofs.lemmas.Iterator.{YieldsList-from_slice}
use Rattle.place_in_list.proofs.Placed.{position-place}
use Rattle.clusters.specs.declared.cluster.Cluster.{Cluster}
use Rattle.clusters.specs.View.{view_table}
use Rattle.clusters.proofs.Placing.{found-is, place-in-view}
use Rattle.clusters.proofs.table.find.Goals as goal

pub returns : goal.returns
returns c =
    let t = c.args.t in
    let place =
    position-place (λ (x : Cluster). eqb c.args.part x.part) _ _ c.position.result c.position.ensures.ran
    (YieldsList-from_slice (take t.count t.clusters) (cc)) (λ x b q k. search (rules, tests))
    ∙ place-in-view c.args.part t c.requires in
    record { place = place; found = found-is c.args.part (view_table t) c.position.result place }

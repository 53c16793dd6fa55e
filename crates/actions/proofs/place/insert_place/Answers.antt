-- `actions::place::insert_place` meets its contract: the place among the clusters that count is that in the table. Assumes nothing.
use Rattle.std.proofs.Common.{rules, tests, ◌≡◌, ◌∙◌, ◌+◌, sym, ap, ap₂, length, take, ℕ, unwrap_or, arith, Option}
use borrow.Author.Rules.{rules as borrow_rules}
use lib.Dec.{ltb}
use Rattle.std.specs.List.{position_from}
use Rattle.std.proofs.lemmas.Iterator.{YieldsList-from_slice}
use Rattle.base.proofs.Counted.{unmapped}
use Rattle.place_in_list.proofs.Placed.{position-place, place-in-map}
use Rattle.clusters.specs.declared.cluster.Cluster.{Cluster as ClusterStruct}
use Rattle.clusters.specs.Cluster.{Cluster}
use Rattle.clusters.specs.View.{view_cluster, view_table}
use Rattle.clusters.proofs.Along.{view-few, table-length}
use Rattle.actions.proofs.Placing.{insert-place-is, insert-place-low}
use Rattle.actions.proofs.place.insert_place.Goals.{Start}
use Rattle.actions.proofs.place.insert_place.Goals as goal

long : (c : Start) → length c.args.t.clusters ≡ 64
long c = search (borrow_rules, unmapped)

pub returns : goal.returns
returns c =
    let t = c.args.t in
    let part = c.args.part in
    let first = take t.count t.clusters in
    let larger = λ (c : Cluster). ltb part c.part in
    let all : length (view_table t) ≡ t.count = table-length t c.requires (long (goal.at.returns c).Start) in
    let behind : t.count ≡ 0 + length (view_table t) = omega arith in
    let place =
    position-place (λ (c : ClusterStruct). ltb part c.part) _ _ c.position.result c.position.ensures.ran
    (YieldsList-from_slice (take t.count t.clusters) (cc)) (λ x b q k. search (rules, tests))
    ∙ sym (ap (position_from larger 0) (view-few t c.requires) ∙ place-in-map view_cluster larger 0 first) in
    let e = c.unwrap_or.ensures ∙ ap₂ (λ (r : Option ℕ) (n : ℕ). unwrap_or r n) place behind ∙ insert-place-is 0 part (view_table t) in
    (omega (arith, e, all, insert-place-low part (view_table t)), e)

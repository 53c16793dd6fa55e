-- `clusters::needs::needs_met` meets its contract. The loop's invariant: the needs of all clusters are met exactly where those of the
-- clusters from the index on are. Assumes nothing.
use borrow.Author.Rules.{rules}
use native.Mathlib.Omega.{arith}
use mathlib.Core.Path.{◌≡◌, sym, ap, ◌∙◌}
use mathlib.Core.List.{◌∷◌, map}
use Prim.Native.Nat.{◌+◌, ◌≤◌, ◌<◌}
use lib.ListN.{length, take, drop, get_or, length-take}
use lib.Seq.{get_or-take}
use Rattle.base.proofs.Counted.{unmapped}
use Rattle.base.proofs.Ladder.{told}
use Rattle.clusters.specs.declared.cluster.Cluster.{Cluster}
use Rattle.clusters.specs.Table.{needs_met_of, needs_met}
use Rattle.clusters.specs.View.{no_cluster, view_cluster, view_table}
use Rattle.clusters.proofs.Along.{view-few, seen-next, seen-last}
use Rattle.clusters.proofs.Views.{few-of-within, few-needs-at}
use Rattle.clusters.proofs.needs.needs_met.Goals.{In-loop-c, Start}
use Rattle.clusters.proofs.needs.needs_met.Goals as goal

long : (c : Start) → length c.args.t.clusters ≡ 64
long c = search (rules, unmapped)

few : (c : Start) → c.args.t.count ≤ 64
few c = few-of-within c.args.t c.requires

step : (c : In-loop-c) → (let t = c.args.t in let first = take t.count t.clusters in let i = c.loop-c.c-index in
    needs_met (view_table t) ≡ needs_met_of (view_table t) (view_cluster (get_or first i no_cluster) ∷ map view_cluster (drop (i + 1) first)))
step c =
    c.loop-c.invariant
    ∙ ap (needs_met_of (view_table c.args.t)) (seen-next (take c.args.t.count c.args.t.clusters) c.loop-c.c-index no_cluster c.loop-c-test.true)

pub of-columns-requires : goal.of-columns-requires
of-columns-requires c = few (goal.at.of-columns-requires c).Start

pub loop-c-init : goal.loop-c-init
unfolding needs_met
loop-c-init c = ap (needs_met_of (view_table c.args.t)) (view-few c.args.t (few (goal.at.loop-c-init c).Start))

pub meets_all_in-requires : goal.meets_all_in-requires
meets_all_in-requires c =
    let t = c.args.t in
    let i = c.loop-c.c-index in
    let below : i < t.count = omega (arith, c.loop-c-test.true, length-take t.count t.clusters) in
    let same = get_or-take t.count t.clusters i no_cluster below in
    let s = (goal.at.meets_all_in-requires c).Start in
    omega (arith, ap (λ (k : Cluster). k.need_count) same, few-needs-at t i c.requires (long s) below)

pub returns-then-not-meets_all_in : goal.returns-then-not-meets_all_in
unfolding needs_met_of
returns-then-not-meets_all_in c = sym (step (goal.at.returns-then-not-meets_all_in c).In-loop-c ∙ simp (told _ _ _ (c.meets_all_in.ensures _ c.of-columns.ensures) c.if-not-meets_all_in.true))

pub loop-c-preserved : goal.loop-c-preserved
unfolding needs_met_of
loop-c-preserved c = step (goal.at.loop-c-preserved c).In-loop-c ∙ simp (told _ _ _ (c.meets_all_in.ensures _ c.of-columns.ensures) c.if-not-meets_all_in.false)

pub returns : goal.returns
unfolding needs_met_of
returns c =
    sym (c.loop-c.invariant ∙ rw (seen-last (take c.args.t.count c.args.t.clusters) c.loop-c.c-index c.loop-c-test.false))

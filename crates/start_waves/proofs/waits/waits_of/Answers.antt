-- `start_waves::waits::waits_of` meets its contract. The loop's invariant: the places below k are those of the table. Assumes nothing.
use Prim.Native.Nat.{◌/◌, ◌≤◌, ◌<◌}
use mathlib.Core.Path.{◌≡◌, refl, ◌∙◌}
use native.Mathlib.Nat.{div-add-mod'}
use native.Mathlib.Omega.{arith}
use lib.ListN.{length}
use borrow.Author.Rules.{rules}
use Rattle.base.proofs.Counted.{unmapped}
use Rattle.clusters.specs.Cluster.{needs_most}
use Rattle.clusters.specs.Table.{clusters_most}
use Rattle.clusters.proofs.Views.{few-of-within, few-needs-at}
use Rattle.start_waves.specs.Waits.{WaitsOf}
use Rattle.start_waves.proofs.WaitLaws.{filled_more, wait-of-struct}
use Rattle.start_waves.proofs.waits.waits_of.Goals.{In-loop-k, Start}
use Rattle.start_waves.proofs.waits.waits_of.Goals as goal

long : (c : Start) → length c.args.t.clusters ≡ clusters_most
long c = search (rules, unmapped)

few : (c : Start) → c.args.t.count ≤ clusters_most
few c = few-of-within c.args.t c.requires.0

-- the cluster at k / 4 is one of the table's
below : (c : In-loop-k) → c.loop-k.k / needs_most < c.args.t.count
below c = omega (arith, div-add-mod' c.loop-k.k needs_most)

pub loop-k-init : goal.loop-k-init
loop-k-init c = record { long = refl; filled = λ own j few below. absurd (omega arith) }

pub overflow_mul-k-end : goal.overflow_mul-k-end
overflow_mul-k-end c = omega (arith, few (goal.at.overflow_mul-k-end c).Start)

pub offset_bounds-t-own : goal.offset_bounds-t-own
offset_bounds-t-own c = omega (arith, few (goal.at.offset_bounds-t-own c).Start)

pub bounds-t-own : goal.bounds-t-own
bounds-t-own c = omega (arith, below (goal.at.bounds-t-own c).In-loop-k, few (goal.at.bounds-t-own c).Start)

pub wait_of-requires : goal.wait_of-requires
wait_of-requires c =
    (few (goal.at.wait_of-requires c).Start, c.requires.1, few-needs-at c.args.t _ c.requires.0 (long (goal.at.wait_of-requires c).Start) (below (goal.at.wait_of-requires c).In-loop-k))

pub offset_bounds-places-k : goal.offset_bounds-places-k
offset_bounds-places-k c = omega (arith, few (goal.at.offset_bounds-places-k c).Start)

pub bounds-places-k : goal.bounds-places-k
bounds-places-k c = omega (arith, few (goal.at.bounds-places-k c).Start)

pub loop-k-preserved : goal.loop-k-preserved
loop-k-preserved c =
    filled_more _ (omega (arith, few (goal.at.loop-k-preserved c).Start)) c.loop-k.invariant
    (c.wait_of.ensures _ c.requires.2 ∙ wait-of-struct c.args.t (few (goal.at.loop-k-preserved c).Start) (long (goal.at.loop-k-preserved c).Start) _ _ (below (goal.at.loop-k-preserved c).In-loop-k))

pub returns : goal.returns
unfolding WaitsOf
returns c own j l n = c.loop-k.invariant.filled own j n (omega arith)

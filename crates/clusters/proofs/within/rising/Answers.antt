-- `clusters::within::rising` meets its contract. The loop's invariant: the table rises exactly where the clusters from the index on rise
-- above the last part number. Assumes nothing.
use mathlib.Core.Path.{◌≡◌, refl, sym, ap, ◌∙◌}
use mathlib.Core.Bool.{Bool, true, false, ◌&&◌, true≢false}
use mathlib.Core.List.{◌∷◌, map}
use Prim.Native.Nat.{ℕ, ◌+◌}
use lib.Dec.{ltb}
use lib.ListN.{take, drop, get_or}
use Rattle.base.proofs.Tests.{and_left, and_right}
use Rattle.clusters.specs.Cluster.{Cluster, cluster_within}
use Rattle.clusters.specs.Table.{Table, rising_above}
use Rattle.clusters.specs.View.{no_cluster, view_cluster, view_table}
use Rattle.clusters.proofs.Along.{view-few, seen-next, seen-last}
use Rattle.clusters.proofs.within.rising.Goals.{In-loop-c}
use Rattle.clusters.proofs.within.rising.Goals as goal

-- the two tests of a cluster: r is what the call answers
module _ (last : ℕ) (c : Cluster) (t : Table) (r : Bool) (e : r ≡ cluster_within c) where
  stops : ltb last c.part && r ≡ false → rising_above last (c ∷ t) ≡ false
  unfolding rising_above
  stops h = rw (← e) (go (ltb last c.part) r h)
    where
      go : (a b : Bool) → a && b ≡ false → a && (b && rising_above c.part t) ≡ false
      go true true k = absurd (true≢false k)
      go true false k = refl
      go false b k = refl

  goes_on : ltb last c.part && r ≡ true → rising_above last (c ∷ t) ≡ rising_above c.part t
  unfolding rising_above
  goes_on p = rw (← e, and_left (ltb last c.part) r p, and_right (ltb last c.part) r p)

step : (c : In-loop-c) → (let first = take c.args.t.count c.args.t.clusters in let i = c.loop-c.c-index in
    rising_above 0 (view_table c.args.t) ≡ rising_above c.loop-c.last (view_cluster (get_or first i no_cluster) ∷ map view_cluster (drop (i + 1) first)))
step c =
    c.loop-c.invariant
    ∙ ap (λ (l : Table). rising_above c.loop-c.last l) (seen-next (take c.args.t.count c.args.t.clusters) c.loop-c.c-index no_cluster c.loop-c-test.true)

pub loop-c-init : goal.loop-c-init
loop-c-init c = ap (λ (l : Table). rising_above 0 l) (view-few c.args.t c.requires)

pub returns-then-not-last-c : goal.returns-then-not-last-c
returns-then-not-last-c c = sym (step (goal.at.returns-then-not-last-c c).In-loop-c ∙ stops _ _ _ _ c.cluster_within.ensures c.if-not-last-c.true)

pub loop-c-preserved : goal.loop-c-preserved
loop-c-preserved c = step (goal.at.loop-c-preserved c).In-loop-c ∙ goes_on _ _ _ _ c.cluster_within.ensures c.if-not-last-c.false

pub returns : goal.returns
unfolding rising_above
returns c =
    sym (c.loop-c.invariant ∙ rw (seen-last (take c.args.t.count c.args.t.clusters) c.loop-c.c-index c.loop-c-test.false))

-- What the place that a search gives says of a table: the cluster with the part number stands there. Assumes nothing.
use Prim.Native.Nat.{ℕ, ◌≤◌, ◌<◌}
use mathlib.Core.Path.{◌≡◌, refl, sym, ap, ◌∙◌}
use mathlib.Core.Bool.{cond}
use mathlib.Core.List.{[], ◌∷◌, map}
use mathlib.Core.Option.{none, some}
use native.Mathlib.Omega.{arith}
use lib.Dec.{eqb}
use lib.ListN.{length, take, get_or, length-map, length-take, get_or-map}
use lib.Seq.{get_or-take}
use Rattle.std.specs.Prelude.{None, Some}
use Rattle.std.specs.List.{position_from}
use Rattle.place_in_list.specs.Place.{Found, found_in}
use Rattle.place_in_list.proofs.Placed.{placed-in, none_found, place-in-map}
use Rattle.place_in_list.proofs.Placed as placed
use Rattle.clusters.specs.declared.cluster.Cluster.{Cluster as ClusterStruct}
use Rattle.clusters.specs.declared.table.Table.{Table as TableStruct}
use Rattle.clusters.specs.Cluster.{Cluster}
use Rattle.clusters.specs.Table.{Table, find, clusters_most}
use Rattle.clusters.specs.View.{no_cluster, view_cluster, view_table}
use Rattle.clusters.specs.Place.{has_part, place_of}
use Rattle.clusters.proofs.Along.{view-few}

-- ---- what is found is what the definition finds

finds-first : (part : ℕ) (c : Cluster) (t : Table) → find part (c ∷ t) ≡ cond (has_part part c) (some c) (find part t)
unfolding find
finds-first part c t = refl

finds-none : (part : ℕ) → find part [] ≡ none
unfolding find
finds-none part = refl

pub nothing-found : (base part : ℕ) (t : Table) → position_from (has_part part) base t ≡ None → find part t ≡ none
nothing-found base part t e = none_found (has_part part) (find part) (finds-none part) (finds-first part) base t e

-- r is what the search gave
pub found-is : (part : ℕ) (t : Table) (r : Found) → r ≡ place_of part t → found_in t r ≡ find part t
found-is part t r e = placed.found-is (has_part part) (find part) (finds-none part) (finds-first part) t r e

-- ---- the cluster with the part number stands at i

pub record Placed (part : ℕ) (d : Cluster) (t : Table) (i : ℕ) : Type 0 where
  pub below : i < length t
  pub there : find part t ≡ some (get_or t i d)

pub place-says : (part : ℕ) (t : Table) (i : ℕ) (d : Cluster) → place_of part t ≡ Some i → Placed part d t i
place-says part t i d e =
    let p = placed-in (has_part part) t i e in
    record { below = p.below; there = sym (found-is part t (Some i) (sym e)) ∙ p.listed d }

-- the same of a struct's clusters
pub record FoundIn (part : ℕ) (t : TableStruct) (i : ℕ) : Type 0 where
  pub below : i < t.count
  pub there : find part (view_table t) ≡ some (view_cluster (get_or t.clusters i no_cluster))

pub found_in_lem : (part : ℕ) (t : TableStruct) (i : ℕ) → t.count ≤ clusters_most → place_of part (view_table t) ≡ Some i → FoundIn part t i
found_in_lem part t i few e =
    let q : view_table t ≡ map view_cluster (take t.count t.clusters) = view-few t few in
    let p : Placed part (view_cluster no_cluster) (map view_cluster (take t.count t.clusters)) i = place-says part _ i _ (rw q at e) in
    let l : i < t.count = omega (arith, p.below, length-map (take t.count t.clusters) view_cluster, length-take t.count t.clusters) in
    record {
      below = l;
      there = rw q (p.there ∙ ap (λ (c : Cluster). some c) (get_or-map view_cluster (take t.count t.clusters) i no_cluster ∙ ap view_cluster (get_or-take t.count t.clusters i no_cluster l)));
    }

-- the place among the clusters that count is the place in the table
pub place-in-view : (part : ℕ) (t : TableStruct) → t.count ≤ clusters_most
    → position_from (λ (c : ClusterStruct). eqb part c.part) 0 (take t.count t.clusters) ≡ place_of part (view_table t)
place-in-view part t few = sym (ap (place_of part) (view-few t few) ∙ place-in-map view_cluster (has_part part) 0 (take t.count t.clusters))

-- A test of each need, as the library says it. Assumes nothing.
use mathlib.Core.Path.{◌≡◌, refl, ap}
use mathlib.Core.Bool.{◌&&◌}
use mathlib.Core.List.{List, [], ◌∷◌}
use Rattle.std.specs.List.{list_all}
use Rattle.clusters.specs.declared.cluster.Need.{Need}
use Rattle.clusters.specs.Cluster.{need_within, needs_within}
use Rattle.clusters.specs.Table.{Table, meets, meets_all}

pub all-within : (ns : List Need) → list_all need_within ns ≡ needs_within ns
unfolding needs_within
all-within [] = refl
all-within (n ∷ ns) = ap (◌&&◌ (need_within n)) (all-within ns)

pub all-met : (t : Table) (ns : List Need) → list_all (meets t) ns ≡ meets_all t ns
unfolding meets_all
all-met t [] = refl
all-met t (n ∷ ns) = ap (◌&&◌ (meets t n)) (all-met t ns)

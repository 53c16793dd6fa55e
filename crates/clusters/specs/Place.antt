-- Where clusters stand in a table.
use Rattle.std.specs.Prelude.{ℕ, Bool, List, eqb}
use Rattle.std.specs.List.{position_from}
use Rattle.place_in_list.specs.Place.{Found}
use Rattle.clusters.specs.Cluster.{Cluster}
use Rattle.clusters.specs.Table.{Table}

-- the place of the first such part number, in a column of them whose first has the place i
abbrev pub place_among : ℕ → ℕ → List ℕ → Found
place_among i part parts = position_from (eqb part) i parts

-- the column of part numbers has this of each cluster
abbrev pub part_of : Cluster → ℕ
part_of c = c.part

-- a cluster has the part number
abbrev pub has_part : ℕ → Cluster → Bool
has_part part c = eqb part (part_of c)

-- the place of the cluster with a part number in a table
abbrev pub place_of : ℕ → Table → Found
place_of part t = position_from (has_part part) 0 t

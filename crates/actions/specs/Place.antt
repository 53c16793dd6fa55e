-- Where a cluster is put into a table, as an index from 0.
use Rattle.std.specs.Prelude.{ℕ, ◌+◌, cond, [], ◌∷◌, ltb}
use Rattle.clusters.specs.Table.{Table}

-- the place of the first cluster with a larger part number, or the place behind the last, in a list whose first cluster has
-- the place i
unfoldable pub insert_place_from : ℕ → ℕ → Table → ℕ
insert_place_from i part [] = i
insert_place_from i part (c ∷ t) = cond (ltb part c.part) i (insert_place_from (i + 1) part t)

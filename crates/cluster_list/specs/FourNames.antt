-- A.2: "A four-name list still loads, with all marks 0."
use Rattle.std.specs.Prelude.{Bool, true, false, not, ◌&&◌, [], ◌∷◌}
use Rattle.clusters.specs.Cluster.{with_mark}
use Rattle.clusters.specs.Table.{Table}
use Rattle.cluster_list.specs.Write.{Form, four_names, five_names}

-- the table with all marks 0
unfoldable pub unmarked : Table → Table
unmarked [] = []
unmarked (c ∷ t) = with_mark c false ∷ unmarked t

-- all marks of the table are 0
unfoldable pub no_marks : Table → Bool
no_marks [] = true
no_marks (c ∷ t) = not c.stays && no_marks t

-- the table that is read from the list of a table in a form
abbrev pub as_read : Form → Table → Table
as_read four_names t = unmarked t
as_read five_names t = t

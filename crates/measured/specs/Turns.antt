-- How often the needs of a table are found met, asked turn by turn.
use Rattle.std.specs.Prelude.{ℕ, ◌+◌, Bool, cond, List, [], ◌∷◌, eqb, unwrap_or}
use Rattle.clusters.specs.Table.{needs_met}
use Rattle.clusters.specs.View.{view_table}
use Rattle.clusters.specs.Struct.{struct_table}
use Rattle.cluster_list.specs.Read.{read_list, list_read}

-- whether the table that a list says meets all needs; for an ill-formed list it is the empty one
abbrev pub needs_met_in : List ℕ → Bool
needs_met_in list = needs_met (view_table (unwrap_or (list_read (read_list list)) (struct_table [])))

-- 1 at a turn that is 1, where the needs are met; else 0
unfoldable pub met_at : Bool → ℕ → ℕ
met_at met turn = cond (eqb turn 1) (cond met 1 0) 0

-- at how many turns it is so
unfoldable pub turns_met : Bool → List ℕ → ℕ
turns_met met [] = 0
turns_met met (turn ∷ turns) = met_at met turn + turns_met met turns

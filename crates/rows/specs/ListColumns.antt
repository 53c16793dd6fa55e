-- The names line of a cluster list. A.2 gives "a fifth name in the cluster list", and "A four-name list still loads": the number of
-- fields of the line decides between the four names and the five.
use Rattle.std.specs.Prelude.{ℕ, List, Option, Some, None}
use Rattle.base.specs.Quoted.{bytes}
use Rattle.text.specs.declared.cursor.Cursor.{Cursor}
use Rattle.text.specs.Number.{cursor}
use Rattle.text.specs.Then.{and_then_some}
use Rattle.rows.specs.declared.list_columns.ListColumns.{ListColumns}
use Rattle.rows.specs.Line.{line_from}
use Rattle.rows.specs.Columns.{column_from, cluster_columns}

-- "`cluster`, `version`, `needs`, `least`, each once, in any order", and no field `stays`. The cursor is the one behind the line
unfoldable pub four_columns : ℕ → List ℕ → Option (ListColumns × Cursor)
four_columns next l =
    and_then_some None (cluster_columns 4 l) λ c.
    Some (record { cluster_columns = c; stays = None }, cursor next)

-- these four and `stays`, each once, in any order
unfoldable pub five_columns : ℕ → List ℕ → Option (ListColumns × Cursor)
five_columns next l =
    and_then_some None (cluster_columns 5 l) λ c.
    and_then_some None (column_from 5 0 (bytes "stays") l) λ stays.
    Some (record { cluster_columns = c; stays = Some stays }, cursor next)

-- the names line that a list begins with: a line of four fields has the four names, one of five the five
unfoldable pub list_columns : List ℕ → Option (ListColumns × Cursor)
list_columns l =
    and_then_some (and_then_some None (line_from 4 0 l) λ next. five_columns next.at l)
    (line_from 3 0 l) λ next. four_columns next.at l

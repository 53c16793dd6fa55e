-- The mark of a line of the cluster list, A.2: "a mark, `stays`, 0 or 1". A list of four names has no field for it.
use Rattle.std.specs.Prelude.{ℕ, Bool, true, List, Option, Some, None}
use Rattle.text.specs.declared.cursor.Cursor.{Cursor}
use Rattle.text.specs.Number.{cursor, whole_number}
use Rattle.rows.specs.Field.{cell, is_empty}

-- every line has as many fields as the names line, and one comma less
abbrev pub commas_of : Option ℕ → ℕ
commas_of None = 3
commas_of (Some k) = 4

-- the mark of a line that begins a cluster: "0 or 1". "A four-name list still loads, with all marks 0."
unfoldable pub mark_field : Option ℕ → List ℕ → Option (ℕ × Cursor)
mark_field None l = Some (0, cursor 0)
mark_field (Some k) l = whole_number 1 (cell k l)

-- "A need line leaves it empty."
unfoldable pub no_mark : Option ℕ → List ℕ → Bool
no_mark None l = true
no_mark (Some k) l = is_empty (cell k l)

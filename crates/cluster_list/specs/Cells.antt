-- The fields of a line that the cluster list and the text of a package share.
use Rattle.std.specs.Prelude.{ℕ, cond, List, [], ◌∷◌, ltb, Option, Some, None}
use Rattle.text.specs.declared.cursor.Cursor.{Cursor}
use Rattle.text.specs.Number.{cursor, whole_number}
use Rattle.text.specs.Version.{whole_version}
use Rattle.text.specs.Then.{and_then_read}
use Rattle.rows.specs.declared.columns.ClusterColumns.{ClusterColumns}
use Rattle.rows.specs.Field.{cell, is_empty}
use Rattle.clusters.specs.declared.cluster.Need.{Need}
use Rattle.clusters.specs.Cluster.{need}

-- "a part number 1 to 4,294,967,295"
unfoldable pub part_field : List ℕ → Option (ℕ × Cursor)
part_field w =
    and_then_read None (whole_number 4294967295 w) λ part next.
    cond (ltb part 1) None (Some (part, next))

-- the fields needs and least with the given bytes: "both filled or both empty". "A need is a part number and a least version."
-- The cursor is the one behind what was read of least
unfoldable pub need_of : List ℕ → List ℕ → Option (Option Need × Cursor)
need_of needs least =
    cond (is_empty needs)
    (cond (is_empty least) (Some (None, cursor 0)) None)
    (and_then_read None (part_field needs) λ part _.
    and_then_read None (whole_version least) λ version next.
    Some (Some (need part version), next))

-- the fields needs and least of the line that a text begins with
abbrev pub need_fields : ClusterColumns → List ℕ → Option (Option Need × Cursor)
need_fields columns l = need_of (cell columns.needs l) (cell columns.least l)

-- the needs of a cluster that are on its own line: the one that is filled in, or none
abbrev pub needs_filled : Option Need → List Need
needs_filled (Some n) = n ∷ []
needs_filled None = []

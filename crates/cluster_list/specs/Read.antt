-- "List format", with the fifth name of A.2: a text read into a table; none where it is ill-formed.
use Rattle.std.specs.Prelude.{ℕ, zero, suc, cond, ◌&&◌, List, [], ◌∷◌, ◌++◌, eqb, leb, length, drop, Some, None}
use Rattle.std.specs.Prelude.{Option as CodeOption}
use Rattle.std.proofs.Math.Option.{Option, none, some}
use Rattle.text.specs.declared.version.Version.{Version}
use Rattle.text.specs.Version.{whole_version}
use Rattle.text.specs.Then.{and_then_read, and_then_some}
use Rattle.rows.specs.declared.list_columns.ListColumns.{ListColumns}
use Rattle.rows.specs.Field.{cell, is_empty}
use Rattle.rows.specs.Line.{line_from}
use Rattle.rows.specs.ListColumns.{list_columns}
use Rattle.clusters.specs.declared.cluster.Need.{Need}
use Rattle.clusters.specs.Cluster.{Cluster, cluster, marked_cluster, with_need, needs_most}
use Rattle.clusters.specs.Table.{Table, clusters_most}
use Rattle.clusters.specs.declared.table.Table.{Table as TableStruct}
use Rattle.clusters.specs.View.{no_version, view_table}
use Rattle.clusters.specs.Struct.{struct_cluster, struct_table}
use Rattle.cluster_list.specs.declared.value_line.LineSays.{LineSays}
use Rattle.cluster_list.specs.declared.value_line.LineSays.TheVariants as says
use Rattle.cluster_list.specs.declared.adding.TableEnd.{TableEnd}
use Rattle.cluster_list.specs.Cells.{part_field, need_fields, needs_filled}
use Rattle.cluster_list.specs.Mark.{commas_of, mark_field, no_mark}

-- goes on with what was read so far
abbrev pub and_then_table : {A R : Type 0} → R → Option A → (A → R) → R
and_then_table ill (some a) f = f a
and_then_table ill none f = ill

-- the last cluster of a table, and a cleared one where there is none
abbrev pub last_cluster : Table → Cluster
last_cluster [] = cluster 0 no_version []
last_cluster (c ∷ []) = c
last_cluster (c ∷ (d ∷ t)) = last_cluster (d ∷ t)

-- the part number of the last cluster, and 0 of no cluster
unfoldable pub last_part : Table → ℕ
last_part t = (last_cluster t).part

-- a cluster behind the last: "at most 64 clusters in rising part number"
unfoldable pub cluster_added : Table → Cluster → Option Table
cluster_added t c = cond (leb clusters_most (length t)) none (cond (leb c.part (last_part t)) none (some (t ++ c ∷ [])))

-- "adds a need to the cluster above it", which there must be, with "0 to 4 needs"
unfoldable pub need_added : Table → Need → Option Table
need_added [] n = none
need_added (c ∷ []) n = cond (leb needs_most (length c.needs)) none (some (with_need c n ∷ []))
need_added (c ∷ (d ∷ t)) n = and_then_table none (need_added (d ∷ t) n) λ u. some (c ∷ u)

-- "A line with cluster and version empty adds a need to the cluster above it, with needs and least filled." A.2: "A need line leaves it
-- empty", the mark
unfoldable pub need_line : ListColumns → List ℕ → CodeOption LineSays
need_line columns l =
    cond (no_mark columns.stays l)
    (and_then_read None (need_fields columns.cluster_columns l) λ need _.
    and_then_some None need λ n.
    Some (says.Adds n))
    None

-- "A line that begins a cluster has both of these filled or both empty", needs and least: the cluster has no need or the one filled in,
-- and the mark of the line
unfoldable pub cluster_begun : ListColumns → List ℕ → ℕ → Version → CodeOption LineSays
cluster_begun columns l part version =
    and_then_read None (need_fields columns.cluster_columns l) λ need _.
    and_then_read None (mark_field columns.stays l) λ mark _.
    Some (says.Begins part version need (eqb mark 1))

-- the line's part number and version, and the cluster that it begins
unfoldable pub cluster_line : ListColumns → List ℕ → CodeOption LineSays
cluster_line columns l =
    and_then_read None (part_field (cell columns.cluster_columns.cluster l)) λ part _.
    and_then_read None (whole_version (cell columns.cluster_columns.version l)) λ version _.
    cluster_begun columns l part version

-- what the value line that a text begins with says
abbrev pub line_says : ListColumns → List ℕ → CodeOption LineSays
line_says columns l =
    cond (is_empty (cell columns.cluster_columns.cluster l) && is_empty (cell columns.cluster_columns.version l))
    (need_line columns l) (cluster_line columns l)

-- what a line says, added to the table
abbrev pub line_added : Table → LineSays → Option Table
line_added t (says.Begins part version need stays) = cluster_added t (marked_cluster part version (needs_filled need) stays)
line_added t (says.Adds n) = need_added t n

-- the value line that a text begins with, added to the table
unfoldable pub value_line : ListColumns → List ℕ → Table → Option Table
value_line columns l t = and_then_some none (line_says columns l) (line_added t)

-- the value lines of s from a position to the end, after those read into t. A line has at least one byte, its LF, so as many
-- steps as s has bytes are enough
unfoldable pub value_lines : ℕ → ListColumns → List ℕ → ℕ → Table → Option Table
value_lines zero columns s at t = cond (leb (length s) at) (some t) none
value_lines (suc steps) columns s at t =
    cond (leb (length s) at) (some t)
    (and_then_some none (line_from (commas_of columns.stays) at (drop at s)) λ next.
    and_then_table none (value_line columns (drop at s) t) λ u.
    value_lines steps columns s next.at u)

-- "a line of names, then lines of values in that order"; "No value lines is the empty table."
unfoldable pub read_list : List ℕ → Option Table
read_list s =
    and_then_read none (list_columns s) λ columns next.
    value_lines (length s) columns s next.at []

-- how many bytes the longest list has that can be read: the names line of 34, and 64 clusters of a line of 44 and four of 43
-- (proofs/Longest.antt)
abbrev pub read_list_most : ℕ
read_list_most = 13858

-- what the answer of the reader in the code says: its table, or ill-formed
abbrev pub table_read : CodeOption TableStruct → Option Table
table_read (Some t) = some (view_table t)
table_read None = none

-- the answer of the reader in the code: the table with its unused places cleared
unfoldable pub list_read : Option Table → CodeOption TableStruct
list_read none = None
list_read (some t) = Some (struct_table t)

-- the end of a table: its last cluster, with its unused places cleared, and the number of its clusters
unfoldable pub end_of : Table → TableEnd
end_of t = record { last = struct_cluster (last_cluster t); count = length t }

-- the end of the table with a line added, or none where that is ill-formed
abbrev pub end_read : Option Table → CodeOption TableEnd
end_read none = None
end_read (some t) = Some (end_of t)

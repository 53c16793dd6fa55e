-- "A four-name list still loads, with all marks 0.": a table that was read from a names line of four fields has all marks 0, since each
-- value line keeps it so, and the list of before of a table within its limits is read as that table with all marks 0. Assumes nothing.
use Prim.Native.Nat.{ℕ}
use mathlib.Core.Path.{◌≡◌, refl, subst}
use mathlib.Core.Bool.{true, false, not, ◌&&◌}
use mathlib.Core.List.{List, [], ◌∷◌, ◌++◌}
use mathlib.Core.Option.{Option, none, some}
use lib.Dec.{leb}
use lib.ListN.{length}
use Rattle.base.proofs.Tests.{and_left, and_right, and_both, cond_cases}
use Rattle.std.specs.Prelude.{Option as CodeOption, Some, None}
use Rattle.text.specs.declared.cursor.Cursor.{Cursor}
use Rattle.text.specs.Version.{whole_version}
use Rattle.text.specs.Then.{and_then_read, and_then_some}
use Rattle.text.proofs.ThenLaws.{then-cases, then-cases-some}
use Rattle.rows.specs.declared.columns.ClusterColumns.{ClusterColumns}
use Rattle.rows.specs.declared.list_columns.ListColumns.{ListColumns}
use Rattle.rows.specs.Field.{cell, is_empty}
use Rattle.rows.specs.Line.{line_from}
use Rattle.rows.specs.Columns.{cluster_columns}
use Rattle.rows.specs.ListColumns.{four_columns, list_columns}
use Rattle.clusters.specs.declared.cluster.Need.{Need}
use Rattle.clusters.specs.Cluster.{Cluster, needs_most}
use Rattle.clusters.specs.Table.{Table, clusters_most, table_within}
use Rattle.cluster_list.specs.declared.value_line.LineSays.{LineSays}
use Rattle.cluster_list.specs.Cells.{part_field, need_fields}
use Rattle.cluster_list.specs.Mark.{mark_field, no_mark}
use Rattle.cluster_list.specs.Read.{last_part, cluster_added, need_added, need_line, cluster_begun, cluster_line, line_added, value_line, value_lines, read_list}
use Rattle.cluster_list.specs.Write.{four_names, list_text}
use Rattle.cluster_list.specs.FourNames.{unmarked, no_marks}
use Rattle.cluster_list.proofs.Within.{then-cases-table, Such, lines_keep}
use Rattle.cluster_list.proofs.RoundTrip.{form-back}

-- all marks of the table, where there is one, are 0
abbrev Unmarked : Option Table → Type 0
Unmarked = Such λ t. no_marks t ≡ true

-- ---- what each line adds

behind-unmarked : (t : Table) (c : Cluster) → no_marks t ≡ true → c.stays ≡ false → no_marks (t ++ c ∷ []) ≡ true
unfolding no_marks
behind-unmarked [] c h e = rw e
behind-unmarked (d ∷ t) c h e =
    and_both (not d.stays) _ (and_left (not d.stays) (no_marks t) h) (behind-unmarked t c (and_right (not d.stays) _ h) e)

cluster-unmarked : (t : Table) (c : Cluster) → no_marks t ≡ true → c.stays ≡ false → Unmarked (cluster_added t c)
unfolding cluster_added
cluster-unmarked t c h e =
    cond_cases Unmarked (leb clusters_most (length t)) _ _ (λ _. tt) λ _.
    cond_cases Unmarked (leb c.part (last_part t)) _ _ (λ _. tt) λ _. behind-unmarked t c h e

need-unmarked : (t : Table) (n : Need) → no_marks t ≡ true → Unmarked (need_added t n)
unfolding need_added no_marks
need-unmarked [] n h = tt
need-unmarked (c ∷ []) n h = cond_cases Unmarked (leb needs_most (length c.needs)) _ _ (λ _. tt) λ _. h
need-unmarked (c ∷ (d ∷ t)) n h =
    let rest = need-unmarked (d ∷ t) n (and_right (not c.stays) (no_marks (d ∷ t)) h) in
    then-cases-table Unmarked none (need_added (d ∷ t) n) _ tt λ u e.
    and_both (not c.stays) (no_marks u) (and_left (not c.stays) (no_marks (d ∷ t)) h) (subst Unmarked e rest)

-- ---- the lines

abbrev four : ClusterColumns → ListColumns
four c = record { cluster_columns = c; stays = None }

module _ (c : ClusterColumns) (l : List ℕ) (t : Table) (h : no_marks t ≡ true) where
  -- the table with a line added has all marks 0
  abbrev UnmarkedWith : CodeOption LineSays → Type 0
  UnmarkedWith line = Unmarked (and_then_some none line (line_added t))

  need-line-unmarked : UnmarkedWith (need_line (four c) l)
  unfolding need_line no_mark
  need-line-unmarked =
      then-cases UnmarkedWith None (need_fields c l) _ tt λ need next e.
      then-cases-some UnmarkedWith None need _ tt λ n f. need-unmarked t n h

  cluster-line-unmarked : UnmarkedWith (cluster_line (four c) l)
  unfolding cluster_line cluster_begun mark_field
  cluster-line-unmarked =
      then-cases UnmarkedWith None (part_field (cell c.cluster l)) _ tt λ part behind e.
      then-cases UnmarkedWith None (whole_version (cell c.version l)) _ tt λ version next f.
      then-cases UnmarkedWith None (need_fields c l) _ tt λ need after g. cluster-unmarked t _ h refl

  value-line-unmarked : Unmarked (value_line (four c) l t)
  unfolding value_line
  value-line-unmarked =
      cond_cases UnmarkedWith (is_empty (cell c.cluster l) && is_empty (cell c.version l)) _ _
      (λ _. need-line-unmarked) λ _. cluster-line-unmarked

list-unmarked : (s : List ℕ) (next : Cursor) → line_from 3 0 s ≡ Some next → Unmarked (read_list s)
unfolding read_list list_columns four_columns
list-unmarked s next e =
    rw e
    (then-cases-some
    (λ (read : CodeOption (ListColumns × Cursor)). Unmarked (and_then_read none read λ columns behind. value_lines (length s) columns s behind.at []))
    None (cluster_columns 4 s) _ tt λ c f.
    lines_keep (λ t. no_marks t ≡ true) (four c) (value-line-unmarked c) (length s) s next.at [] (unfold no_marks in refl))

-- a table that was read from a names line of four fields
pub four-names-unmarked : (s : List ℕ) (next : Cursor) (t : Table) → line_from 3 0 s ≡ Some next → read_list s ≡ some t → no_marks t ≡ true
four-names-unmarked s next t e f = subst Unmarked f (list-unmarked s next e)

-- the list of before, which is read as the table with all marks 0
pub four-names-back : (t : Table) → table_within t ≡ true → read_list (list_text four_names t) ≡ some (unmarked t)
four-names-back t h = form-back four_names t h

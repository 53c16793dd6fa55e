-- How long a text is that reads as a table: at most 13,858 bytes. In a list of five names a line that adds a cluster without a need has
-- at most 44 bytes, one that adds a need 43, and one that adds both 82; the names line has 34. In a list of four names each has less.
-- Assumes nothing.
use Prim.Native.Nat.{ℕ, zero, suc, ◌+◌, ◌*◌, ◌≤◌}
use mathlib.Core.Path.{◌≡◌, subst}
use mathlib.Core.Bool.{true, ◌&&◌}
use mathlib.Core.List.{List, [], ◌∷◌, ◌++◌}
use mathlib.Core.Option.{Option, none, some}
use native.Mathlib.Omega.{arith}
use lib.Dec.{leb, ltb}
use lib.ListN.{length, drop, length-append}
use borrow.Author.Tests.{leb-true}
use Rattle.base.proofs.Tests.{and_left, and_right, cond_cases}
use Rattle.std.specs.Prelude.{Option as CodeOption, Some, None}
use Rattle.text.specs.declared.cursor.Cursor.{Cursor}
use Rattle.text.specs.declared.version.Version.{Version}
use Rattle.text.specs.Number.{whole_number}
use Rattle.text.specs.Version.{whole_version}
use Rattle.text.proofs.DigitLaws.{length-small, ten-digits}
use Rattle.text.proofs.Bytes.{version-most}
use Rattle.text.proofs.Meaning.{whole-number-written, whole-version-written}
use Rattle.text.specs.Then.{and_then_some}
use Rattle.text.proofs.ThenLaws.{then-cases, then-cases-some}
use Rattle.rows.specs.declared.columns.ClusterColumns.{ClusterColumns}
use Rattle.rows.specs.declared.list_columns.ListColumns.{ListColumns}
use Rattle.rows.specs.Field.{cell, is_empty}
use Rattle.rows.specs.Line.{line_from}
use Rattle.rows.specs.ListColumns.{list_columns}
use Rattle.rows.proofs.Empty.{empty-length}
use Rattle.rows.proofs.NamesOnce.{ListPlaced, list-placed}
use Rattle.clusters.specs.declared.cluster.Need.{Need}
use Rattle.clusters.specs.Cluster.{Cluster, needs_most}
use Rattle.clusters.specs.Table.{Table, clusters_most, rising_above, table_within}
use Rattle.clusters.proofs.Limits.{rising-says, few-clusters, rising-clusters, cluster-few-needs}
use Rattle.cluster_list.specs.declared.value_line.LineSays.{LineSays}
use Rattle.cluster_list.specs.Cells.{part_field, need_of, need_fields, needs_filled}
use Rattle.cluster_list.specs.Mark.{commas_of, mark_field, no_mark}
use Rattle.cluster_list.specs.Read.{last_part, cluster_added, need_added, need_line, cluster_begun, cluster_line, line_added, value_line, value_lines, read_list, read_list_most}
use Rattle.cluster_list.proofs.FirstNeed.{few-filled}
use Rattle.cluster_list.proofs.Within.{then-cases-table, read_list-within}
use Rattle.cluster_list.proofs.LineLength.{four_length, row_length, row-bytes, names-most}

-- ---- fields

abbrev ShortPart : List ℕ → CodeOption (ℕ × Cursor) → Type 0
ShortPart w (Some (part, next)) = length w ≤ 10
ShortPart w None = Unit {0}

part-short : (w : List ℕ) → ShortPart w (part_field w)
unfolding part_field
part-short w =
    then-cases (ShortPart w) None (whole_number 4294967295 w) _ tt λ part next e.
    cond_cases (ShortPart w) (ltb part 1) _ _ (λ _. tt)
    λ _. let written = whole-number-written 4294967295 w part next e in
    rw written.0 (ten-digits part written.1)

part-read-short : (w : List ℕ) (part : ℕ) (next : Cursor) → part_field w ≡ Some (part, next) → length w ≤ 10
part-read-short w part next e = subst (ShortPart w) e (part-short w)

version-read-short : (w : List ℕ) (v : Version) (next : Cursor) → whole_version w ≡ Some (v, next) → length w ≤ 28
version-read-short w v next e =
    let written = whole-version-written w v next e in
    rw written.0 (version-most v written.1)

-- the fields needs and least: 38 bytes for the need that they say, or none
abbrev ShortNeed : List ℕ → List ℕ → CodeOption (CodeOption Need × Cursor) → Type 0
ShortNeed w v (Some (n, next)) = length w + length v ≤ 38 * length (needs_filled n)
ShortNeed w v None = Unit {0}

need-short : (w v : List ℕ) → ShortNeed w v (need_of w v)
unfolding need_of
need-short w v =
    cond_cases (ShortNeed w v) (is_empty w) _ _
    (λ a. cond_cases (ShortNeed w v) (is_empty v) _ _ (λ b. omega (arith, empty-length w a, empty-length v b)) (λ _. tt))
    λ _. then-cases (ShortNeed w v) None (part_field w) _ tt λ part behind e.
    then-cases (ShortNeed w v) None (whole_version v) _ tt λ least next f.
    omega (arith, part-read-short w part behind e, version-read-short v least next f)

-- an empty mark has no byte, and a mark one
no-mark-short : (columns : ClusterColumns) (stays : CodeOption ℕ) (l : List ℕ) → no_mark stays l ≡ true
    → row_length columns stays l ≤ four_length columns l + 5
unfolding no_mark
no-mark-short columns None l h = omega arith
no-mark-short columns (Some stays) l h = omega (arith, empty-length (cell stays l) h)

mark-short : (columns : ClusterColumns) (stays : CodeOption ℕ) (l : List ℕ) (mark : ℕ) (next : Cursor) → mark_field stays l ≡ Some (mark, next)
    → row_length columns stays l ≤ four_length columns l + 6
unfolding mark_field
mark-short columns None l mark next e = omega arith
mark-short columns (Some stays) l mark next e =
    let written = whole-number-written 1 (cell stays l) mark next e in
    let one : length (cell stays l) ≡ 1 = rw written.0 (length-small mark (omega (arith, written.1))) in
    omega arith

-- ---- what a line adds

-- how many bytes the lines of a table can have: 44 for each cluster and 43 for each need
unfoldable room : Table → ℕ
room [] = 0
room (c ∷ t) = 44 + 43 * length c.needs + room t

room-more : (t : Table) (c : Cluster) → room (t ++ c ∷ []) ≡ room t + 44 + 43 * length c.needs
unfolding room
room-more [] c = omega arith
room-more (d ∷ t) c = omega (arith, room-more t c)

-- a line of that many bytes has at most the room for what it adds
abbrev Adds : ℕ → Table → Option Table → Type 0
Adds size t none = Unit {0}
Adds size t (some u) = size + room t ≤ room u

cluster-adds : (size : ℕ) (t : Table) (c : Cluster) → size ≤ 44 + 43 * length c.needs → Adds size t (cluster_added t c)
unfolding cluster_added
cluster-adds size t c h =
    cond_cases (Adds size t) (leb clusters_most (length t)) _ _ (λ _. tt) λ _.
    cond_cases (Adds size t) (leb c.part (last_part t)) _ _ (λ _. tt) λ _. omega (arith, room-more t c)

need-adds : (size : ℕ) (t : Table) (n : Need) → size ≤ 43 → Adds size t (need_added t n)
unfolding need_added room
need-adds size [] n h = tt
need-adds size (c ∷ []) n h =
    cond_cases (Adds size (c ∷ [])) (leb needs_most (length c.needs)) _ _ (λ _. tt)
    λ _. omega (arith, length-append c.needs (n ∷ []))
need-adds size (c ∷ (d ∷ t)) n h =
    let rest = need-adds size (d ∷ t) n h in
    then-cases-table (Adds size (c ∷ (d ∷ t))) none (need_added (d ∷ t) n) _ tt
    λ u e. let w : Adds size (d ∷ t) (some u) = subst (Adds size (d ∷ t)) e rest in omega arith

module _ (columns : ListColumns) (l : List ℕ) (t : Table) where
  abbrev four : ClusterColumns
  four = columns.cluster_columns

  -- the bytes of the line
  abbrev size : ℕ
  size = row_length four columns.stays l

  needs-fields : (read : CodeOption Need) (next : Cursor) → need_fields four l ≡ Some (read, next)
      → length (cell four.needs l) + length (cell four.least l) ≤ 38 * length (needs_filled read)
  needs-fields read next e =
      subst (ShortNeed (cell four.needs l) (cell four.least l)) e (need-short (cell four.needs l) (cell four.least l))

  -- the line has at most the room for what is added
  abbrev AddsWith : CodeOption LineSays → Type 0
  AddsWith line = Adds size t (and_then_some none line (line_added t))

  need-line-adds : length (cell four.cluster l) + length (cell four.version l) ≡ 0 → AddsWith (need_line columns l)
  unfolding need_line
  need-line-adds z =
      cond_cases AddsWith (no_mark columns.stays l) _ _
      (λ m. then-cases AddsWith None (need_fields four l) _ tt λ read next e.
      then-cases-some AddsWith None read _ tt λ n f.
      need-adds size t n (omega (arith, no-mark-short four columns.stays l m, needs-fields read next e, few-filled read)))
      λ _. tt

  cluster-line-adds : AddsWith (cluster_line columns l)
  unfolding cluster_line cluster_begun
  cluster-line-adds =
      then-cases AddsWith None (part_field (cell four.cluster l)) _ tt λ part behind e.
      then-cases AddsWith None (whole_version (cell four.version l)) _ tt λ version next f.
      then-cases AddsWith None (need_fields four l) _ tt λ read after g.
      then-cases AddsWith None (mark_field columns.stays l) _ tt λ mark last m.
      cluster-adds size t _
      (omega (
        arith,
        part-read-short (cell four.cluster l) part behind e,
        version-read-short (cell four.version l) version next f,
        needs-fields read after g,
        mark-short four columns.stays l mark last m,
      ))

  value-line-adds : Adds size t (value_line columns l t)
  unfolding value_line
  value-line-adds =
      let a = is_empty (cell four.cluster l) in
      let b = is_empty (cell four.version l) in
      cond_cases AddsWith (a && b) _ _
      (λ h. need-line-adds (omega (arith, empty-length (cell four.cluster l) (and_left a b h), empty-length (cell four.version l) (and_right a b h))))
      λ _. cluster-line-adds

-- ---- the list

-- the bytes from a position on are at most the room for what was added
abbrev Read : ℕ → ℕ → Table → Option Table → Type 0
Read long at t none = Unit {0}
Read long at t (some u) = long + room t ≤ at + room u

-- the columns are those of a names line, which ends at `end`
module _ (names : List ℕ) (columns : ListColumns) (end : Cursor) (placed : ListPlaced names columns end) where
  lines-read : (steps : ℕ) (s : List ℕ) (at : ℕ) (t : Table) → Read (length s) at t (value_lines steps columns s at t)
  unfolding value_lines
  lines-read zero s at t =
      cond_cases (Read (length s) at t) (leb (length s) at) _ _ (λ h. omega (arith, leb-true (length s) at h)) (λ _. tt)
  lines-read (suc steps) s at t =
      let ih : (next : ℕ) (u : Table) → Read (length s) next u (value_lines steps columns s next u) = lines-read steps s in
      let size = row_length columns.cluster_columns columns.stays (drop at s) in
      cond_cases (Read (length s) at t) (leb (length s) at) _ _ (λ h. omega (arith, leb-true (length s) at h)) λ _.
      then-cases-some (Read (length s) at t) none (line_from (commas_of columns.stays) at (drop at s)) _ tt λ next e.
      then-cases-table (Read (length s) at t) none (value_line columns (drop at s) t) _ tt λ u f.
      further at next.at t u (value_lines steps columns s next.at u)
      (let w : Adds size t (some u) = subst (Adds size t) f (value-line-adds columns (drop at s) t) in
      omega (arith, row-bytes names columns end placed (drop at s) at next e))
      (ih next.at u)
    where
      further : (at next : ℕ) (t u : Table) (o : Option Table) → next + room t ≤ at + room u → Read (length s) next u o → Read (length s) at t o
      further at next t u none h w = tt
      further at next t u (some v) h w = omega arith

room_most : (last : ℕ) (t : Table) → rising_above last t ≡ true → room t ≤ 216 * length t
unfolding room
room_most last [] h = omega arith
room_most last (c ∷ t) h =
    let r = rising-says last c t h in
    omega (arith, leb-true (length c.needs) needs_most (cluster-few-needs c r.within), room_most c.part t r.rest)

list_read : (s : List ℕ) → Read (length s) 34 [] (read_list s)
unfolding read_list
list_read s =
    then-cases (Read (length s) 34 []) none (list_columns s) _ tt λ columns next e.
    let placed = list-placed s columns next e in
    later next.at (value_lines (length s) columns s next.at []) (names-most s columns next placed)
    (lines-read s columns next placed (length s) s next.at [])
  where
    later : (at : ℕ) (o : Option Table) → at ≤ 34 → Read (length s) at [] o → Read (length s) 34 [] o
    later at none h w = tt
    later at (some u) h w = omega arith

-- 34 + (44 + 4 × 43) × 64
pub read-most : (s : List ℕ) (t : Table) → read_list s ≡ some t → length s ≤ read_list_most
unfolding room
read-most s t e =
    let read : Read (length s) 34 [] (some t) = subst (Read (length s) 34 []) e (list_read s) in
    let within : table_within t ≡ true = read_list-within s t e in
    omega (arith, room_most 0 t (rising-clusters t within), few-clusters t within)

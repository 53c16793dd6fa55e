-- What the definitions of reading give, for each way that the code takes: one line after the other. x, y, r are calls' results. Assumes
-- nothing.
use Prim.Native.Nat.{ℕ, zero, suc, ◌+◌, ◌-◌, ◌≤◌, ◌<◌}
use mathlib.Core.Path.{◌≡◌, refl, sym, ap, subst, ◌∙◌}
use mathlib.Core.Bool.{Bool, true, cond}
use mathlib.Core.List.{List, []}
use mathlib.Core.Option.{Option, none, some}
use native.Mathlib.Omega.{arith}
use lib.ListN.{length, drop, set, length-set}
use lib.Dec.{leb}
use borrow.Author.Tests.{le-leb, lt-leb}
use Rattle.std.specs.Prelude.{Option as CodeOption, Some, None}
use Rattle.text.specs.declared.cursor.Cursor.{Cursor}
use Rattle.text.specs.declared.version.Version.{Version}
use Rattle.text.specs.Then.{and_then_some}
use Rattle.rows.specs.declared.list_columns.ListColumns.{ListColumns}
use Rattle.rows.specs.Line.{line_from}
use Rattle.rows.proofs.LineBounds.{line-at-after}
use Rattle.clusters.specs.declared.cluster.Need.{Need}
use Rattle.clusters.specs.declared.cluster.Cluster.{Cluster as ClusterStruct}
use Rattle.clusters.specs.declared.table.Table.{Table as TableStruct}
use Rattle.clusters.specs.Cluster.{cluster, marked_cluster}
use Rattle.clusters.specs.Table.{Table, rising_above, table_within}
use Rattle.clusters.specs.Struct.{struct_cluster, struct_table}
use Rattle.clusters.specs.Exact.{empty_table, with_mark}
use Rattle.clusters.proofs.Limits.{few-clusters}
use Rattle.clusters.proofs.Arrays.{set-put}
use Rattle.clusters.proofs.Structs.{struct-empty, struct-with-mark}
use Rattle.cluster_list.specs.declared.value_line.LineSays.{LineSays}
use Rattle.cluster_list.specs.declared.adding.TableEnd.{TableEnd}
use Rattle.cluster_list.specs.Cells.{needs_filled}
use Rattle.cluster_list.specs.Mark.{commas_of}
use Rattle.cluster_list.specs.Read.{and_then_table, line_says, line_added, value_line, value_lines, list_read, end_of, end_read}
use Rattle.cluster_list.proofs.Within.{Such, value-line-within}
use Rattle.cluster_list.proofs.EndLaws.{Grown, line-grows}

-- the cluster of a line's fields: x without the mark, y with it
pub marked : (part : ℕ) (version : Version) (need : CodeOption Need) (mark : Bool) (x y : ClusterStruct)
    → x ≡ struct_cluster (cluster part version (needs_filled need)) → y ≡ with_mark x mark → y ≡ struct_cluster (marked_cluster part version (needs_filled need) mark)
marked part version need mark x y e q =
    q ∙ ap (λ (c : ClusterStruct). with_mark c mark) e ∙ struct-with-mark (cluster part version (needs_filled need)) mark

-- ---- one line after the other

-- as many steps as the text has bytes behind a position are enough, and more give the same
steps-over : (steps : ℕ) (columns : ListColumns) (s : List ℕ) (at : ℕ) (t : Table) → length s ≤ at → value_lines steps columns s at t ≡ some t
unfolding value_lines
steps-over zero columns s at t h = rw (le-leb (length s) at h)
steps-over (suc steps) columns s at t h = rw (le-leb (length s) at h)

steps-enough : (k j : ℕ) (columns : ListColumns) (s : List ℕ) (at : ℕ) (t : Table) → length s ≤ at + k → length s ≤ at + j
    → value_lines k columns s at t ≡ value_lines j columns s at t
unfolding value_lines
steps-enough zero j columns s at t h o = steps-over zero columns s at t (omega arith) ∙ sym (steps-over j columns s at t (omega arith))
steps-enough (suc k) zero columns s at t h o = steps-over (suc k) columns s at t (omega arith) ∙ sym (steps-over zero columns s at t (omega arith))
steps-enough (suc k) (suc j) columns s at t h o =
    ap (cond (leb (length s) at) (some t))
    (go (line_from (commas_of columns.stays) at (drop at s)) (value_line columns (drop at s) t) refl
    λ next u n. steps-enough k j columns s next u (omega arith) (omega arith))
  where
    go : (x : CodeOption Cursor) (v : Option Table) → x ≡ line_from (commas_of columns.stays) at (drop at s)
        → ((next : ℕ) (u : Table) → at < next → value_lines k columns s next u ≡ value_lines j columns s next u)
        → and_then_some none x (λ next. and_then_table none v λ u. value_lines k columns s next.at u)
        ≡ and_then_some none x (λ next. and_then_table none v λ u. value_lines j columns s next.at u)
    go None v e ih = refl
    go (Some next) none e ih = refl
    go (Some next) (some u) e ih = ih next.at u (line-at-after s (commas_of columns.stays) at _ next e refl)

-- the lines from a position on
module _ (columns : ListColumns) (s : List ℕ) (at : ℕ) (t : Table) where
  lines_step : at < length s → value_lines (length s) columns s at t
      ≡ (and_then_some none (line_from (commas_of columns.stays) at (drop at s)) λ next. and_then_table none (value_line columns (drop at s) t) λ u. value_lines (length s) columns s next.at u)
  unfolding value_lines
  lines_step h =
      steps-enough (length s) (suc (length s)) columns s at t (omega arith) (omega arith)
      ∙ rw (lt-leb (length s) at h)

  module _ (whole : Option Table) (q : whole ≡ value_lines (length s) columns s at t) where
    pub lines-over : length s ≤ at → whole ≡ some t
    lines-over h = q ∙ steps-over (length s) columns s at t h

    module _ (x : CodeOption Cursor) (h : at < length s) (e : x ≡ line_from (commas_of columns.stays) at (drop at s)) where
      pub lines-no-line : x ≡ None → whole ≡ none
      lines-no-line f = q ∙ lines_step h ∙ rw (← e, f)

      module _ (next : Cursor) (f : x ≡ Some next) where
        pub lines-no-value : value_line columns (drop at s) t ≡ none → whole ≡ none
        lines-no-value g = q ∙ lines_step h ∙ rw (← e, f, g)

        pub lines-on : (u : Table) → value_line columns (drop at s) t ≡ some u → whole ≡ value_lines (length s) columns s next.at u
        lines-on u g = q ∙ lines_step h ∙ rw (← e, f, g)

-- how far the code has read the lines from a position `from`: the lines from `at` on are left, after those of the table, whose clusters
-- are in the array
pub record Reading (s : List ℕ) (columns : ListColumns) (commas from : ℕ) (clusters : List ClusterStruct) (end : TableEnd) (at : ℕ) : Type 0 where
  pub fields : commas ≡ commas_of columns.stays
  pub table : Table
  pub within : table_within table ≡ true
  pub array : clusters ≡ (struct_table table).clusters
  pub room : length clusters ≡ 64
  pub ends : end ≡ end_of table
  pub rest : value_lines (length s) columns s from [] ≡ value_lines (length s) columns s at table

pub reading_begins : (s : List ℕ) (columns : ListColumns) (commas from : ℕ) (empty : TableStruct) (end : TableEnd)
    → commas ≡ commas_of columns.stays → empty ≡ empty_table → end ≡ end_of [] → Reading s columns commas from empty.clusters end from
reading_begins s columns commas from empty end q e f =
    record {
      fields = q;
      table = [];
      within = unfold table_within rising_above in refl;
      array = ap (λ (t : TableStruct). t.clusters) (e ∙ struct-empty);
      room = ap (λ (t : TableStruct). length t.clusters) e ∙ (unfold empty_table in refl);
      ends = f;
      rest = refl;
    }

-- the end with a line added is that of a table
record Added (y : Option Table) (end : TableEnd) : Type 0 where
  table : Table
  is : y ≡ some table
  ends : end ≡ end_of table

some-added : (end : TableEnd) (y : Option Table) → Some end ≡ end_read y → Added y end
some-added end none e = absurd (let z : ◌≡◌ {A = ℕ} 0 1 = cc in omega arith)
some-added end (some t) e = record { table = t; is = refl; ends = cc }

none-added : (y : Option Table) → None ≡ end_read y → y ≡ none
none-added none e = refl
none-added (some t) e = absurd (let z : ◌≡◌ {A = ℕ} 0 1 = cc in omega arith)

module _ (s : List ℕ) (columns : ListColumns) (commas from : ℕ) (clusters : List ClusterStruct) (end : TableEnd) (at : ℕ)
    (b : Reading s columns commas from clusters end at) where
  -- the answer for the whole
  abbrev answer : CodeOption TableStruct
  answer = list_read (value_lines (length s) columns s from [])

  pub reading-over : length s ≤ at → Some (record { clusters = clusters; count = end.count }) ≡ answer
  unfolding list_read struct_table end_of
  reading-over h = rw (lines-over columns s at b.table _ b.rest h, b.array, b.ends)

  module _ (x : CodeOption Cursor) (h : at < length s) (f : x ≡ line_from commas at (drop at s)) where
    line_read : x ≡ line_from (commas_of columns.stays) at (drop at s)
    line_read = f ∙ ap (λ (n : ℕ). line_from n at (drop at s)) b.fields

    pub reading-no-line : (y : CodeOption TableStruct) → y ≡ None → x ≡ None → y ≡ answer
    unfolding list_read
    reading-no-line y i g = rw (lines-no-line columns s at b.table _ b.rest x h line_read g) i

    module _ (next : Cursor) (ends : x ≡ Some next) where
      pub reading-less : length s - next.at < length s - at
      reading-less = omega (arith, line-at-after s (commas_of columns.stays) at x next line_read ends)

      -- what the line says
      module _ (said : CodeOption LineSays) (told : said ≡ line_says columns (drop at s)) where
        abbrev longer : CodeOption LineSays → Option Table
        longer line = and_then_some none line (line_added b.table)

        nothing-more : (y : CodeOption TableStruct) → y ≡ None → longer said ≡ none → y ≡ answer
        unfolding list_read
        nothing-more y i g =
            rw (lines-no-value columns s at b.table _ b.rest x h line_read next ends
            (unfold value_line in sym (ap longer told) ∙ g)) i

        pub reading-says-nothing : (y : CodeOption TableStruct) → y ≡ None → said ≡ None → y ≡ answer
        reading-says-nothing y i g = nothing-more y i (ap longer g)

        -- the end with the line added
        module _ (says : LineSays) (is : said ≡ Some says) (r : CodeOption TableEnd)
            (adds : (t : Table) → end ≡ end_of t → r ≡ end_read (line_added t says)) where
          pub reading-no-value : (y : CodeOption TableStruct) → y ≡ None → r ≡ None → y ≡ answer
          reading-no-value y i g = nothing-more y i (ap longer is ∙ none-added (line_added b.table says) (sym g ∙ adds b.table b.ends))

          module _ (more : TableEnd) (given : r ≡ Some more) where
            found : Added (line_added b.table says) more
            found = some-added more (line_added b.table says) (sym given ∙ adds b.table b.ends)

            grows : Grown b.table found.table
            grows = subst (Such (Grown b.table)) found.is (line-grows b.table says)

            read-on : value_line columns (drop at s) b.table ≡ some found.table
            unfolding value_line
            read-on = sym (ap longer told) ∙ ap longer is ∙ found.is

            now-within : table_within found.table ≡ true
            now-within = subst (Such λ t. table_within t ≡ true) read-on (value-line-within columns (drop at s) b.table b.within)

            -- the place of the cluster is in the array
            pub reading-some : 1 ≤ more.count
            unfolding end_of
            reading-some = rw found.ends grows.some-there

            pub reading-place : more.count ≤ 64
            unfolding end_of
            reading-place = rw found.ends (few-clusters found.table now-within)

            pub reading-on : Reading s columns commas from (set clusters (more.count - 1) more.last) more next.at
            reading-on =
                record {
                  fields = b.fields;
                  table = found.table;
                  within = now-within;
                  array = stands found.table grows found.ends;
                  room = length-set clusters (more.count - 1) more.last ∙ b.room;
                  ends = found.ends;
                  rest = lines-on columns s at b.table _ b.rest x h line_read next ends found.table read-on;
                }
              where
                stands : (u : Table) → Grown b.table u → more ≡ end_of u → set clusters (more.count - 1) more.last ≡ (struct_table u).clusters
                stands u g q = set-put clusters (more.count - 1) more.last (omega (arith, b.room, reading-place)) ∙ rw (b.array, q) (unfold end_of in g.put)

-- Reading a list that was written gives back the table, cell by cell: a field, a line, the lines of a cluster's needs, the lines of the
-- clusters. The clusters are read one behind the other, and `front` is what was read before them. The list has the four names or the
-- five, and the first need of a cluster stands on its line, as our writer puts it, or below it as the others do: one law for all.
-- In a list of four names every mark is read as 0. Assumes nothing.
use Prim.Native.Nat.{ℕ, zero, suc, ◌+◌, ◌≤◌, ◌<◌}
use mathlib.Core.Path.{◌≡◌, refl, ap, ◌∙◌}
use mathlib.Core.Bool.{Bool, true, false}
use mathlib.Core.List.{List, [], ◌∷◌, ◌++◌, append_assoc, append-nil}
use mathlib.Core.Option.{Option, none, some}
use native.Mathlib.Omega.{arith}
use lib.Dec.{eqb, leb}
use lib.ListN.{length, take, drop, get_or, length-take, length-drop, length-append, take-append-drop}
use lib.Seq.{drop-append_seam}
use borrow.Author.Tests.{le-leb, lt-leb, leb-true, le-ltb}
use Rattle.base.proofs.Tests.{and_left, and_right, and_both}
use Rattle.std.specs.Prelude.{Option as CodeOption, Some, None}
use Rattle.text.specs.declared.cursor.Cursor.{Cursor}
use Rattle.text.specs.declared.version.Version.{Version}
use Rattle.text.specs.Number.{cursor}
use Rattle.text.specs.Digits.{digits}
use Rattle.text.specs.Version.{version_within, version_text}
use Rattle.text.specs.Meaning.{each_byte}
use Rattle.text.specs.Open.{computing}
use Rattle.text.specs.Then.{and_then_read, and_then_some}
use Rattle.text.proofs.DigitLaws.{some-digit}
use Rattle.text.proofs.Bytes.{each_nil}
use Rattle.text.proofs.RoundTrip.{whole-number-back, whole-version-back, drop_past}
use Rattle.rows.specs.declared.list_columns.ListColumns.{ListColumns}
use Rattle.rows.specs.Field.{cell, is_empty, ends_field, field_byte, plain_field}
use Rattle.rows.specs.Line.{line_from, line_text, plain_fields}
use Rattle.rows.specs.ListColumns.{list_columns}
use Rattle.rows.proofs.Plain.{plain-digits, plain-version}
use Rattle.rows.proofs.LineBack.{line-stands, cell-stands}
use Rattle.rows.proofs.LineBounds.{line-at-after, line-at-inside}
use Rattle.rows.proofs.NamesLine.{in_order, four-names, five-names}
use Rattle.clusters.specs.declared.cluster.Need.{Need}
use Rattle.clusters.specs.Cluster.{Cluster, marked_cluster, with_need, with_mark, part_within, need_within, needs_within, needs_most, cluster_within}
use Rattle.clusters.specs.Table.{Table, clusters_most, rising_above, table_within}
use Rattle.clusters.proofs.Limits.{rising-says, few-clusters, rising-clusters}
use Rattle.cluster_list.specs.Cells.{part_field, need_of, needs_filled}
use Rattle.cluster_list.specs.Mark.{commas_of, mark_field, no_mark}
use Rattle.cluster_list.specs.declared.value_line.LineSays.{LineSays}
use Rattle.cluster_list.specs.declared.value_line.LineSays.TheVariants as says
use Rattle.cluster_list.specs.Read.{last_part, need_added, cluster_added, need_line, cluster_begun, cluster_line, line_added, value_line, value_lines, read_list}
use Rattle.cluster_list.specs.Write.{Form, four_names, five_names, line_in, names_line, mark_text, need_cells, need_line_text, need_lines_text}
use Rattle.cluster_list.specs.Write.{cluster_lines, clusters_text, list_text, write_list}
use Rattle.cluster_list.specs.FourNames.{unmarked, as_read}
use Rattle.rows.proofs.Empty.{some_byte}
use Rattle.cluster_list.proofs.Last.{last-part, need-added, cluster-added}

-- ---- the two forms

-- the column of the marks, and the columns of our writer
abbrev stays_in : Form → CodeOption ℕ
stays_in four_names = None
stays_in five_names = Some 4

abbrev columns_in : Form → ListColumns
columns_in form = record { cluster_columns = in_order; stays = stays_in form }

-- the fields of a line behind the four
abbrev last_in : Form → List ℕ → List (List ℕ)
last_in four_names mark = []
last_in five_names mark = mark ∷ []

-- the mark that is read where this one was written
abbrev mark_in : Form → Bool → Bool
mark_in four_names stays = false
mark_in five_names stays = stays

line-in : (form : Form) (w x y z mark : List ℕ) → line_in form (w ∷ x ∷ y ∷ z ∷ []) mark ≡ line_text (w ∷ x ∷ y ∷ z ∷ last_in form mark)
line-in four_names w x y z mark = refl
line-in five_names w x y z mark = refl

commas-in : (form : Form) (x y z mark : List ℕ) → commas_of (stays_in form) ≡ length (x ∷ y ∷ z ∷ last_in form mark)
commas-in four_names x y z mark = refl
commas-in five_names x y z mark = refl

names-read : (form : Form) (rest : List ℕ) → list_columns (names_line form ++ rest) ≡ Some (columns_in form, cursor (length (names_line form)))
unfolding line_text
names-read four_names rest = four-names rest
names-read five_names rest = five-names rest

as-read-none : (form : Form) → as_read form [] ≡ []
unfolding unmarked
as-read-none four_names = refl
as-read-none five_names = refl

as-read-more : (form : Form) (c : Cluster) (t : Table) → as_read form (c ∷ t) ≡ with_mark c (mark_in form c.stays) ∷ as_read form t
unfolding unmarked
as-read-more four_names c t = refl
as-read-more five_names c t = refl

-- ---- fields

pub part-back : (part : ℕ) → part_within part ≡ true → part_field (digits part) ≡ Some (part, cursor (length (digits part)))
unfolding part_field part_within
part-back part h =
    rw (
      whole-number-back 4294967295 part (leb-true _ _ (and_right (leb 1 part) _ h)),
      le-ltb part 1 (leb-true _ _ (and_left (leb 1 part) _ h)),
    )

pub part-some : (part : ℕ) → is_empty (digits part) ≡ false
part-some part = some_byte (digits part) (some-digit part)

pub need-back : (n : Need) → need_within n ≡ true
    → need_of (digits n.part) (version_text n.least) ≡ Some (Some n, cursor (length (version_text n.least)))
unfolding need_of need_within
need-back n h =
    rw (
      part-some n.part,
      part-back n.part (and_left (part_within n.part) _ h),
      whole-version-back n.least (and_right (part_within n.part) _ h),
    )

pub no-need-back : need_of [] [] ≡ Some (None, cursor 0)
unfolding need_of
no-need-back = refl

-- the field of the mark, where the form has one
abbrev MarkCell : Form → List ℕ → List ℕ → Type 0
MarkCell four_names mark l = Unit {0}
MarkCell five_names mark l = cell 4 l ≡ mark

no-mark-back : (form : Form) (l : List ℕ) → MarkCell form [] l → no_mark (stays_in form) l ≡ true
unfolding no_mark
no-mark-back four_names l e = refl
no-mark-back five_names l e = rw e

mark-text-back : (stays : Bool) (l : List ℕ) → cell 4 l ≡ mark_text stays → (f : Bool → CodeOption LineSays)
    → (and_then_read None (mark_field (stays_in five_names) l) λ mark _. f (eqb mark 1)) ≡ f stays
unfolding mark_field computing
mark-text-back false l e f = rw e
mark-text-back true l e f = rw e

-- what follows the mark follows that of the cluster, or 0 where the form has none
mark-back : (form : Form) (stays : Bool) (l : List ℕ) → MarkCell form (mark_text stays) l → (f : Bool → CodeOption LineSays)
    → (and_then_read None (mark_field (stays_in form) l) λ mark _. f (eqb mark 1)) ≡ f (mark_in form stays)
unfolding mark_field
mark-back four_names stays l e f = refl
mark-back five_names stays l e f = mark-text-back stays l e f

-- ---- a line, by its cells

-- the line that a text begins with has these fields
record Fields (form : Form) (w x y z mark l : List ℕ) : Type 0 where
  first : cell 0 l ≡ w
  second : cell 1 l ≡ x
  third : cell 2 l ≡ y
  fourth : cell 3 l ≡ z
  last : MarkCell form mark l

module _ (form : Form) (l : List ℕ) (t : Table) where
  need-line-back : (n : Need) → need_within n ≡ true → Fields form [] [] (digits n.part) (version_text n.least) [] l
      → value_line (columns_in form) l t ≡ need_added t n
  unfolding value_line need_line
  need-line-back n h fields =
      rw (fields.first, fields.second, fields.third, fields.fourth, no-mark-back form l fields.last, need-back n h)

  cluster-line-back : (part : ℕ) (version : Version) (stays : Bool) (y z : List ℕ) (read : CodeOption Need) (next : Cursor)
      → part_within part ≡ true → version_within version ≡ true → need_of y z ≡ Some (read, next)
      → Fields form (digits part) (version_text version) y z (mark_text stays) l
      → value_line (columns_in form) l t ≡ cluster_added t (marked_cluster part version (needs_filled read) (mark_in form stays))
  unfolding value_line cluster_line cluster_begun
  cluster-line-back part version stays y z read next h w n fields =
      rw (
        fields.first,
        fields.second,
        fields.third,
        fields.fourth,
        part-some part,
        part-back part h,
        whole-version-back version w,
        n,
      )
      (ap (λ (line : CodeOption LineSays). and_then_some none line (line_added t))
      (mark-back form stays l fields.last λ b. Some (says.Begins part version read b)))

-- ---- a line that stands in a text, and then the lines behind it

plain-line : (form : Form) (w x y z mark : List ℕ)
    → plain_field w ≡ true → plain_field x ≡ true → plain_field y ≡ true → plain_field z ≡ true → plain_field mark ≡ true
    → plain_fields (w ∷ x ∷ y ∷ z ∷ last_in form mark) ≡ true
unfolding plain_fields
plain-line four_names w x y z mark a b c d m = and_both _ _ a (and_both _ _ b (and_both _ _ c (and_both _ _ d refl)))
plain-line five_names w x y z mark a b c d m =
    and_both _ _ a (and_both _ _ b (and_both _ _ c (and_both _ _ d (and_both _ _ m refl))))

plain-mark : (stays : Bool) → plain_field (mark_text stays) ≡ true
unfolding each_byte field_byte ends_field
plain-mark false = refl
plain-mark true = refl

mark-there : (form : Form) (w x y z mark l : List ℕ)
    → ((k : ℕ) → k < length (w ∷ x ∷ y ∷ z ∷ last_in form mark) → cell k l ≡ get_or (w ∷ x ∷ y ∷ z ∷ last_in form mark) k []) → MarkCell form mark l
mark-there four_names w x y z mark l there = tt
mark-there five_names w x y z mark l there = there 4 (omega arith)

-- the lines of s from a position on, where `rest` begins, read after those of t, give r
abbrev GoesOn : Form → List ℕ → List ℕ → Table → Option Table → Type 0
GoesOn form s rest t r = (at steps : ℕ) → drop at s ≡ rest → length s ≤ at + steps → value_lines steps (columns_in form) s at t ≡ r

module _ (form : Form) (s : List ℕ) (at : ℕ) (w x y z mark rest : List ℕ)
    (e : drop at s ≡ line_in form (w ∷ x ∷ y ∷ z ∷ []) mark ++ rest) (h : plain_fields (w ∷ x ∷ y ∷ z ∷ last_in form mark) ≡ true) where
  stands : drop at s ≡ line_text (w ∷ x ∷ y ∷ z ∷ last_in form mark) ++ rest
  stands = e ∙ ap (λ (line : List ℕ). line ++ rest) (line-in form w x y z mark)

  line-ends : line_from (commas_of (stays_in form)) at (drop at s) ≡ Some (cursor (at + length (line_in form (w ∷ x ∷ y ∷ z ∷ []) mark)))
  line-ends = rw (commas-in form x y z mark, line-in form w x y z mark) (line-stands s at w (x ∷ y ∷ z ∷ last_in form mark) rest stands h)

  fields-there : Fields form w x y z mark (drop at s)
  fields-there =
      let there = cell-stands s at w (x ∷ y ∷ z ∷ last_in form mark) rest stands h in
      record {
        first = there 0 (omega arith);
        second = there 1 (omega arith);
        third = there 2 (omega arith);
        fourth = there 3 (omega arith);
        last = mark-there form w x y z mark (drop at s) there;
      }

  behind-start : at < at + length (line_in form (w ∷ x ∷ y ∷ z ∷ []) mark)
  behind-start = line-at-after s (commas_of (stays_in form)) at _ _ refl line-ends

  within_text : at + length (line_in form (w ∷ x ∷ y ∷ z ∷ []) mark) ≤ length s
  within_text = line-at-inside s (commas_of (stays_in form)) at _ _ refl line-ends

  -- a line takes one step, and has at least one byte
  line_step : (steps : ℕ) (t u : Table) (r : Option Table) → length s ≤ at + steps → value_line (columns_in form) (drop at s) t ≡ some u
      → GoesOn form s rest u r → value_lines steps (columns_in form) s at t ≡ r
  unfolding value_lines
  line_step zero t u r o v go = absurd (omega (arith, behind-start, within_text))
  line_step (suc steps) t u r o v go =
      rw (lt-leb (length s) at (omega (arith, behind-start, within_text)), line-ends, v)
      (go _ steps (drop_past s at (line_in form (w ∷ x ∷ y ∷ z ∷ []) mark) rest e) (omega (arith, behind-start)))

-- ---- the lines of a cluster's needs

-- a cluster with more needs
abbrev with_needs : Cluster → List Need → Cluster
with_needs c ns = marked_cluster c.part c.version (c.needs ++ ns) c.stays

module _ (form : Form) (s : List ℕ) (front : Table) (rest : List ℕ) (r : Option Table) where
  needs-back : (ns : List Need) (c : Cluster) → needs_within ns ≡ true → length c.needs + length ns ≤ needs_most
      → GoesOn form s rest (front ++ with_needs c ns ∷ []) r → GoesOn form s (need_lines_text form ns ++ rest) (front ++ c ∷ []) r
  unfolding needs_within need_lines_text need_line_text
  needs-back [] c h o go at steps e f = go' at steps e f
    where
      go' : GoesOn form s rest (front ++ c ∷ []) r
      go' = rw append-nil at go
  needs-back (n ∷ ns) c h o go at steps e f =
      let y = digits n.part in
      let z = version_text n.least in
      let behind = need_lines_text form ns ++ rest in
      let e' : drop at s ≡ line_in form ([] ∷ [] ∷ y ∷ z ∷ []) [] ++ behind = e ∙ append_assoc (need_line_text form n) (need_lines_text form ns) rest in
      let plain : plain_fields ([] ∷ [] ∷ y ∷ z ∷ last_in form []) ≡ true =
      plain-line form [] [] y z [] (each_nil field_byte) (each_nil field_byte) (plain-digits n.part) (plain-version n.least) (each_nil field_byte) in
      line_step form s at [] [] y z [] behind e' plain steps (front ++ c ∷ []) (front ++ with_need c n ∷ []) r f
      (need-line-back form (drop at s) (front ++ c ∷ []) n (and_left (need_within n) _ h) (fields-there form s at [] [] y z [] behind e' plain)
      ∙ need-added c n front (omega arith))
      (needs-back ns (with_need c n) (and_right (need_within n) _ h) (omega (arith, length-append c.needs (n ∷ []))) (rw append_assoc go))

-- ---- the lines of a cluster

-- the lines of a cluster with so many of its needs, one or none, on the cluster's line, and the others below
unfoldable pub lines_with : Form → ℕ → Cluster → List ℕ
lines_with form first c =
    line_in form (digits c.part ∷ version_text c.version ∷ need_cells (take first c.needs)) (mark_text c.stays)
    ++ need_lines_text form (drop first c.needs)

-- our writer puts the first there
writer-lines : (form : Form) (c : Cluster) → cluster_lines form c ≡ lines_with form 1 c
unfolding cluster_lines lines_with
writer-lines form c = ap (λ (cells : List (List ℕ)). line_in form (digits c.part ∷ version_text c.version ∷ cells) (mark_text c.stays)
    ++ need_lines_text form (drop 1 c.needs)) (first-cells c.needs)
  where
    first-cells : (ns : List Need) → need_cells ns ≡ need_cells (take 1 ns)
    first-cells [] = refl
    first-cells (n ∷ ns) = refl

needs-parted : (k : ℕ) (ns : List Need) → needs_within ns ≡ true → (needs_within (take k ns) ≡ true) × (needs_within (drop k ns) ≡ true)
unfolding needs_within
needs-parted zero ns h = (refl, h)
needs-parted (suc k) [] h = (refl, refl)
needs-parted (suc k) (n ∷ ns) h =
    let rest = needs-parted k ns (and_right (need_within n) _ h) in
    (and_both (need_within n) _ (and_left (need_within n) _ h) rest.0, rest.1)

module _ (form : Form) (s : List ℕ) (front : Table) (rest : List ℕ) (r : Option Table) (part : ℕ) (version : Version) (stays : Bool)
    (h : part_within part ≡ true) (w : version_within version ≡ true) (few : length front < clusters_most) (above : last_part front < part) where
  -- a line with the fields y and z, which say the need `on` or none, and the lines of the needs `below`
  line-and-needs : (y z : List ℕ) (on : CodeOption Need) (next : Cursor) (below : List Need) → plain_field y ≡ true → plain_field z ≡ true
      → need_of y z ≡ Some (on, next) → needs_within below ≡ true → length (needs_filled on) + length below ≤ needs_most
      → GoesOn form s rest (front ++ marked_cluster part version (needs_filled on ++ below) (mark_in form stays) ∷ []) r
      → GoesOn form s ((line_in form (digits part ∷ version_text version ∷ y ∷ z ∷ []) (mark_text stays) ++ need_lines_text form below) ++ rest) front r
  line-and-needs y z on next below p q said n o go at steps e f =
      let x = version_text version in
      let mark = mark_text stays in
      let behind = need_lines_text form below ++ rest in
      let line = line_in form (digits part ∷ x ∷ y ∷ z ∷ []) mark in
      let e' : drop at s ≡ line ++ behind = e ∙ append_assoc line (need_lines_text form below) rest in
      let plain : plain_fields (digits part ∷ x ∷ y ∷ z ∷ last_in form mark) ≡ true =
      plain-line form (digits part) x y z mark (plain-digits part) (plain-version version) p q (plain-mark stays) in
      line_step form s at (digits part) x y z mark behind e' plain steps front _ r f
      (cluster-line-back form (drop at s) front part version stays y z on next h w said
      (fields-there form s at (digits part) x y z mark behind e' plain)
      ∙ cluster-added front _ few above)
      (needs-back form s front rest r below (marked_cluster part version (needs_filled on) (mark_in form stays)) n o go)

  cluster-back : (on below : List Need) → length on ≤ 1 → needs_within on ≡ true → needs_within below ≡ true → length on + length below ≤ needs_most
      → GoesOn form s rest (front ++ marked_cluster part version (on ++ below) (mark_in form stays) ∷ []) r
      → GoesOn form s ((line_in form (digits part ∷ version_text version ∷ need_cells on) (mark_text stays) ++ need_lines_text form below) ++ rest) front r
  unfolding needs_within
  cluster-back [] below one v n o go = line-and-needs [] [] None _ below (each_nil field_byte) (each_nil field_byte) no-need-back n o go
  cluster-back (m ∷ []) below one v n o go =
      line-and-needs (digits m.part) (version_text m.least) (Some m) _ below (plain-digits m.part) (plain-version m.least)
      (need-back m (and_left (need_within m) _ v)) n o go
  cluster-back (m ∷ k ∷ on) below one v n o go = absurd (omega arith)

-- ---- the whole list

no_lines : (form : Form) (s : List ℕ) (at steps : ℕ) (t : Table) → length s ≤ at → value_lines steps (columns_in form) s at t ≡ some t
unfolding value_lines
no_lines form s at zero t h = rw (le-leb (length s) at h)
no_lines form s at (suc steps) t h = rw (le-leb (length s) at h)

-- the lines of the clusters, each with so many of its needs on its own line
unfoldable pub table_with : Form → ℕ → Table → List ℕ
table_with form first [] = []
table_with form first (c ∷ t) = lines_with form first c ++ table_with form first t

pub writer-table : (form : Form) (t : Table) → clusters_text form t ≡ table_with form 1 t
unfolding clusters_text table_with
writer-table form [] = refl
writer-table form (c ∷ t) = rw (writer-lines form c, writer-table form t)

module _ (form : Form) (s : List ℕ) (first : ℕ) (one : first ≤ 1) where
  clusters-back : (t front : Table) → rising_above (last_part front) t ≡ true → length front + length t ≤ clusters_most
      → GoesOn form s (table_with form first t) front (some (front ++ as_read form t))
  unfolding table_with lines_with cluster_within
  clusters-back [] front h o =
      λ at steps e f. rw (as-read-none form, append-nil) (no_lines form s at steps front (omega (arith, ap length e, length-drop at s)))
  clusters-back (c ∷ t) front h o =
      let parts = rising-says (last_part front) c t h in
      let within = parts.within in
      let behind-part = and_right (part_within c.part) _ within in
      let behind-version = and_right (version_within c.version) _ behind-part in
      let needs = needs-parted first c.needs (and_right (leb (length c.needs) needs_most) _ behind-version) in
      let few : length c.needs ≤ needs_most = leb-true _ _ (and_left _ _ behind-version) in
      let read = with_mark c (mark_in form c.stays) in
      cluster-back form s front (table_with form first t) (some (front ++ as_read form (c ∷ t))) c.part c.version c.stays
      (and_left (part_within c.part) _ within) (and_left (version_within c.version) _ behind-part) (omega arith) parts.over
      (take first c.needs) (drop first c.needs) (rw length-take (omega arith)) needs.0 needs.1
      (rw (length-take, length-drop) (omega arith))
      (rw (take-append-drop, as-read-more form c t)
      (rw append_assoc at (clusters-back t (front ++ read ∷ []) (rw last-part parts.rest) (omega (arith, length-append front (read ∷ []))))))

-- a list that has the lines of a table within the limits in either form and in either way is read as that table, with the marks that the
-- form has
pub list-with-back : (form : Form) (first : ℕ) → first ≤ 1 → (t : Table) → table_within t ≡ true
    → read_list (names_line form ++ table_with form first t) ≡ some (as_read form t)
unfolding read_list last_part
list-with-back form first one t h =
    let s = names_line form ++ table_with form first t in
    rw (names-read form (table_with form first t))
    (clusters-back form s first one t [] (rising-clusters t h) (omega (arith, few-clusters t h))
    (length (names_line form)) (length s) (drop-append_seam (names_line form) (table_with form first t)) (omega arith))

-- the list of a table in a form
pub form-back : (form : Form) (t : Table) → table_within t ≡ true → read_list (list_text form t) ≡ some (as_read form t)
unfolding list_text
form-back form t h = rw (writer-table form t) (list-with-back form 1 (omega arith) t h)

-- what our writer writes of a table within the limits is read as the same table: "A written list must still load as the same table."
pub list_back : (t : Table) → table_within t ≡ true → read_list (write_list t) ≡ some t
list_back t h = form-back five_names t h

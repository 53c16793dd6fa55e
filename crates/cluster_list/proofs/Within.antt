-- A table that was read from a list is within the limits: each value line keeps it so. Assumes nothing.
use mathlib.Core.Path.{◌≡◌, refl, sym, ap, subst, ◌∙◌}
use mathlib.Core.Bool.{true, ◌&&◌}
use mathlib.Core.List.{List, [], ◌∷◌, ◌++◌}
use mathlib.Core.Option.{Option, none, some}
use Prim.Native.Nat.{ℕ, zero, suc, ◌≤◌, ◌<◌}
use native.Mathlib.Omega.{arith}
use lib.Dec.{eqb, leb}
use lib.ListN.{length, drop, length-append}
use borrow.Author.Tests.{leb-false, le-leb}
use Rattle.base.proofs.Tests.{and_left, and_right, and_both, cond_cases}
use Rattle.std.specs.Prelude.{Option as CodeOption, Some, None, unwrap_or}
use Rattle.text.specs.Version.{whole_version, version_within}
use Rattle.text.specs.Then.{and_then_some}
use Rattle.text.proofs.ThenLaws.{then-cases, then-cases-some}
use Rattle.text.proofs.Meaning.{whole-version-limits}
use Rattle.rows.specs.declared.list_columns.ListColumns.{ListColumns}
use Rattle.rows.specs.Field.{cell, is_empty}
use Rattle.rows.specs.Line.{line_from}
use Rattle.rows.specs.ListColumns.{list_columns}
use Rattle.clusters.specs.declared.cluster.Need.{Need}
use Rattle.clusters.specs.Cluster.{Cluster, marked_cluster, with_need, part_within, need_within, needs_within, needs_most, cluster_within}
use Rattle.clusters.specs.Table.{Table, rising_above, table_within, clusters_most}
use Rattle.clusters.proofs.Limits.{rising-says, rising-is, few-clusters, rising-clusters, table-is-within}
use Rattle.clusters.specs.View.{view_table}
use Rattle.clusters.specs.Struct.{struct_table}
use Rattle.clusters.specs.Exact.{empty_table}
use Rattle.clusters.proofs.Structs.{struct-empty, view_struct}
use Rattle.clusters.specs.declared.table.Table.{Table as TableStruct}
use Rattle.cluster_list.specs.declared.value_line.LineSays.{LineSays}
use Rattle.cluster_list.specs.Cells.{part_field, need_fields, needs_filled}
use Rattle.cluster_list.specs.Mark.{commas_of, mark_field, no_mark}
use Rattle.cluster_list.specs.Read.{and_then_table, last_part, cluster_added, need_added, need_line, cluster_begun, cluster_line, line_added, value_line, value_lines, read_list, list_read, table_read}
use Rattle.cluster_list.proofs.FirstNeed.{few-filled}
use Rattle.cluster_list.proofs.CellsWithin.{part-read-within, needs-read-within, need-read-within}

-- to show something of an `and_then_table`, show it of `ill`, and of what follows a value
pub then-cases-table : {A R : Type 0} (P : R → Type 0) (ill : R) (o : Option A) (f : A → R) → P ill → ((a : A) → o ≡ some a → P (f a)) → P (and_then_table ill o f)
then-cases-table P ill (some a) f i g = g a refl
then-cases-table P ill none f i g = i

-- ---- a cluster by its parts

pub cluster-is-within : (c : Cluster) → part_within c.part ≡ true → version_within c.version ≡ true → length c.needs ≤ needs_most → needs_within c.needs ≡ true → cluster_within c ≡ true
unfolding cluster_within
cluster-is-within c part version few needs = and_both _ _ part (and_both _ _ version (and_both _ _ (le-leb _ _ few) needs))

needs-joined : (ns : List Need) (n : Need) → needs_within ns ≡ true → need_within n ≡ true → needs_within (ns ++ n ∷ []) ≡ true
unfolding needs_within
needs-joined [] n h k = and_both _ _ k refl
needs-joined (m ∷ ns) n h k = and_both (need_within m) _ (and_left (need_within m) (needs_within ns) h) (needs-joined ns n (and_right (need_within m) _ h) k)

-- one need more, where there is room
pub with-need-within : (c : Cluster) (n : Need) → cluster_within c ≡ true → need_within n ≡ true → length c.needs < needs_most → cluster_within (with_need c n) ≡ true
unfolding cluster_within
with-need-within c n h k l =
    let version = and_right (part_within c.part) _ h in
    let few = and_right (version_within c.version) _ version in
    cluster-is-within (with_need c n) (and_left _ _ h) (and_left _ _ version)
    (rw (length-append c.needs (n ∷ [])) (omega arith))
    (needs-joined c.needs n (and_right (leb (length c.needs) needs_most) _ few) k)

-- ---- a cluster behind the last

last-behind : (d : Cluster) (t : Table) → last_part t ≤ last_part (d ∷ t)
unfolding last_part
last-behind d [] = omega arith
last-behind d (e ∷ t) = omega arith

first-at-most : (last : ℕ) (d : Cluster) (t : Table) → rising_above last (d ∷ t) ≡ true → d.part ≤ last_part (d ∷ t)
unfolding last_part
first-at-most last d [] h = omega arith
first-at-most last d (e ∷ t) h =
    let r = rising-says last d (e ∷ t) h in
    let ih : e.part ≤ last_part (e ∷ t) = first-at-most d.part e t r.rest in
    omega (arith, (rising-says d.part e t r.rest).over)

rising-joined : (last : ℕ) (t : Table) (c : Cluster) → rising_above last t ≡ true → last < c.part → last_part t < c.part → cluster_within c ≡ true → rising_above last (t ++ c ∷ []) ≡ true
rising-joined last [] c h l m k = rising-is last c [] (record { over = l; within = k; rest = unfold rising_above in refl })
rising-joined last (d ∷ t) c h l m k =
    let r = rising-says last d t h in
    rising-is last d (t ++ c ∷ [])
    (record { over = r.over; within = r.within; rest = rising-joined d.part t c r.rest (omega (arith, first-at-most last d t h)) (omega (arith, last-behind d t)) k })

-- ---- what each line gives

-- the table, where there is one, is such
abbrev pub Such : (Table → Type 0) → Option Table → Type 0
Such P none = Unit {0}
Such P (some t) = P t

-- it is within the limits
abbrev pub Within : Option Table → Type 0
Within = Such λ t. table_within t ≡ true

cluster-added-within : (t : Table) (c : Cluster) → table_within t ≡ true → cluster_within c ≡ true → Within (cluster_added t c)
unfolding cluster_added
cluster-added-within t c h k =
    cond_cases Within (leb clusters_most (length t)) _ _ (λ b. tt) λ b.
    cond_cases Within (leb c.part (last_part t)) _ _ (λ l. tt) λ l.
    let over : last_part t < c.part = leb-false c.part (last_part t) l in
    table-is-within (t ++ c ∷ [])
    (rw (length-append t (c ∷ [])) (omega (arith, leb-false clusters_most (length t) b)))
    (rising-joined 0 t c (rising-clusters t h) (omega arith) over k)

-- the tables, where there is one, rise from the same number and are as long
abbrev RisesAs : ℕ → ℕ → Option Table → Type 0
RisesAs last long none = Unit {0}
RisesAs last long (some t) = (rising_above last t ≡ true) × (length t ≡ long)

need-added-rises : (last : ℕ) (t : Table) (n : Need) → rising_above last t ≡ true → need_within n ≡ true → RisesAs last (length t) (need_added t n)
unfolding need_added
need-added-rises last [] n h k = tt
need-added-rises last (c ∷ []) n h k =
    let r = rising-says last c [] h in
    cond_cases (RisesAs last 1) (leb needs_most (length c.needs)) _ _ (λ b. tt) λ b.
    (rising-is last (with_need c n) [] (record { over = r.over; within = with-need-within c n r.within k (leb-false needs_most (length c.needs) b); rest = unfold rising_above in refl }), refl)
need-added-rises last (c ∷ (d ∷ t)) n h k =
    let r = rising-says last c (d ∷ t) h in
    let ih = need-added-rises c.part (d ∷ t) n r.rest k in
    then-cases-table (RisesAs last (length (c ∷ (d ∷ t)))) none (need_added (d ∷ t) n) _ tt λ u e.
    let w : RisesAs c.part (length (d ∷ t)) (some u) = subst (RisesAs c.part (length (d ∷ t))) e ih in
    (rising-is last c u (record { over = r.over; within = r.within; rest = w.0 }), ap suc w.1)

need-added-within : (t : Table) (n : Need) → table_within t ≡ true → need_within n ≡ true → Within (need_added t n)
need-added-within t n h k = go (need_added t n) (need-added-rises 0 t n (rising-clusters t h) k)
  where
    go : (o : Option Table) → RisesAs 0 (length t) o → Within o
    go none w = tt
    go (some u) w = table-is-within u (rw w.1 (few-clusters t h)) w.0

module _ (columns : ListColumns) (l : List ℕ) (t : Table) (h : table_within t ≡ true) where
  -- the table with a line added is
  abbrev WithinWith : CodeOption LineSays → Type 0
  WithinWith line = Within (and_then_some none line (line_added t))

  need-line-within : WithinWith (need_line columns l)
  unfolding need_line
  need-line-within =
      cond_cases WithinWith (no_mark columns.stays l) _ _
      (λ b. then-cases WithinWith None (need_fields columns.cluster_columns l) _ tt λ need next e.
      then-cases-some WithinWith None need _ tt λ n f.
      need-added-within t n h (need-read-within (cell columns.cluster_columns.needs l) (cell columns.cluster_columns.least l) need next e n f))
      λ b. tt

  cluster-line-within : WithinWith (cluster_line columns l)
  unfolding cluster_line cluster_begun
  cluster-line-within =
      let part-cell = cell columns.cluster_columns.cluster l in
      let version-cell = cell columns.cluster_columns.version l in
      then-cases WithinWith None (part_field part-cell) _ tt λ part behind e.
      then-cases WithinWith None (whole_version version-cell) _ tt λ version next f.
      let part-fine = part-read-within part-cell part behind e in
      let version-fine = whole-version-limits version-cell version next _ refl f in
      then-cases WithinWith None (need_fields columns.cluster_columns l) _ tt λ need after g.
      then-cases WithinWith None (mark_field columns.stays l) _ tt λ mark last i.
      cluster-added-within t _ h
      (cluster-is-within (marked_cluster part version (needs_filled need) (eqb mark 1)) part-fine version-fine (omega (arith, few-filled need))
      (needs-read-within (cell columns.cluster_columns.needs l) (cell columns.cluster_columns.least l) need after g))

  pub value-line-within : Within (value_line columns l t)
  unfolding value_line
  value-line-within =
      cond_cases WithinWith (is_empty (cell columns.cluster_columns.cluster l) && is_empty (cell columns.cluster_columns.version l)) _ _
      (λ b. need-line-within) λ b. cluster-line-within

-- ---- all lines

-- what each value line keeps holds of the table of all lines
module _ (P : Table → Type 0) (columns : ListColumns) (keeps : (l : List ℕ) (t : Table) → P t → Such P (value_line columns l t)) where
  pub lines_keep : (steps : ℕ) (s : List ℕ) (at : ℕ) (t : Table) → P t → Such P (value_lines steps columns s at t)
  unfolding value_lines
  lines_keep zero s at t h = cond_cases (Such P) (leb (length s) at) _ _ (λ b. h) λ b. tt
  lines_keep (suc steps) s at t h =
      let ih : (next : ℕ) (u : Table) → P u → Such P (value_lines steps columns s next u) = lines_keep steps s in
      cond_cases (Such P) (leb (length s) at) _ _ (λ b. h) λ b.
      then-cases-some (Such P) none (line_from (commas_of columns.stays) at (drop at s)) _ tt λ next e.
      then-cases-table (Such P) none (value_line columns (drop at s) t) _ tt λ u f.
      ih next.at u (subst (Such P) f (keeps (drop at s) t h))

list-within : (s : List ℕ) → Within (read_list s)
unfolding read_list
list-within s =
    then-cases Within none (list_columns s) _ tt λ columns next e.
    lines_keep (λ t. table_within t ≡ true) columns (value-line-within columns) (length s) s next.at [] (unfold table_within rising_above in refl)

-- a table that was read is within the limits
pub read_list-within : (s : List ℕ) (t : Table) → read_list s ≡ some t → table_within t ≡ true
read_list-within s t e = subst Within e (list-within s)

-- the same of the table that the reader in the code answers
pub list-read-within : (s : List ℕ) (r : CodeOption TableStruct) (table : TableStruct) → r ≡ list_read (read_list s) → r ≡ Some table
    → table_within (view_table table) ≡ true
unfolding list_read
list-read-within s r table e f = go (read_list s) (list-within s) (sym f ∙ e)
  where
    go : (o : Option Table) → Within o → Some table ≡ list_read o → table_within (view_table table) ≡ true
    go none w g = absurd (let z : ◌≡◌ {A = ℕ} 0 1 = cc in omega arith)
    go (some t) w g = let same : table ≡ struct_table t = cc in rw (same, view_struct t w) w

-- and of the table that a caller takes, who takes the empty one where the list is ill-formed
pub list-or-empty-within : (s : List ℕ) (r : CodeOption TableStruct) (empty table : TableStruct) → r ≡ list_read (read_list s) → empty ≡ empty_table
    → table ≡ unwrap_or r empty → table_within (view_table table) ≡ true
list-or-empty-within s r empty table e f g = go r refl
  where
    go : (o : CodeOption TableStruct) → r ≡ o → table_within (view_table table) ≡ true
    go None q =
        rw (g, q, f, struct-empty, view_struct [] (unfold table_within rising_above in refl)) (unfold table_within rising_above in refl)
    go (Some t) q = let same : table ≡ t = g ∙ rw q in list-read-within s r table e (q ∙ ap Some (sym same))

-- what the answer says is what the definition reads
pub table-read : (s : List ℕ) (r : CodeOption TableStruct) → r ≡ list_read (read_list s) → table_read r ≡ read_list s
unfolding list_read
table-read s r e = ap table_read e ∙ go (read_list s) (list-within s)
  where
    go : (o : Option Table) → Within o → table_read (list_read o) ≡ o
    go none w = refl
    go (some t) w = ap some (view_struct t w)

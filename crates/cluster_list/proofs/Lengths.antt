-- How long a table within its limits is as a list of five names: at most 13,538 bytes. A part number has at most 10 digits, a version
-- at most 28 bytes and a mark one, so a cluster's line has at most 82 bytes, a need's line at most 43, and the names line has 34.
-- Assumes nothing.
use Prim.Native.Nat.{ℕ, ◌+◌, ◌*◌, ◌≤◌}
use mathlib.Core.Path.{◌≡◌, refl}
use mathlib.Core.Bool.{Bool, true, false}
use mathlib.Core.List.{List, [], ◌∷◌}
use native.Mathlib.Omega.{arith}
use lib.Dec.{leb, ltb}
use lib.ListN.{length, drop, length-append}
use borrow.Author.Tests.{leb-true}
use Rattle.base.proofs.Tests.{and_left, and_right}
use Rattle.text.specs.declared.version.Version.{Version}
use Rattle.text.specs.Digits.{digits}
use Rattle.text.specs.Version.{version_within, version_text}
use Rattle.text.proofs.DigitLaws.{ten-digits}
use Rattle.text.proofs.Bytes.{version-most}
use Rattle.rows.specs.Line.{line_text}
use Rattle.clusters.specs.declared.cluster.Need.{Need}
use Rattle.clusters.specs.Cluster.{Cluster, part_within, need_within, needs_within, needs_most, cluster_within}
use Rattle.clusters.specs.Table.{Table, clusters_most, rising_above, table_within}
use Rattle.cluster_list.specs.Write.{written_list_most, five_names, line_in, names_line, mark_text, need_cells, need_line_text, need_lines_text}
use Rattle.cluster_list.specs.Write.{cluster_lines, clusters_text, list_text, write_list}

-- four commas and LF
pub line-length : (w x y z mark : List ℕ)
    → length (line_in five_names (w ∷ x ∷ y ∷ z ∷ []) mark) ≡ length w + length x + length y + length z + length mark + 5
unfolding line_text
line-length w x y z mark = simp length-append (omega arith)

pub names-length : length (names_line five_names) ≡ 34
unfolding line_text
names-length = refl

pub mark-length : (stays : Bool) → length (mark_text stays) ≡ 1
mark-length false = refl
mark-length true = refl

part-most : (part : ℕ) → part_within part ≡ true → length (digits part) ≤ 10
unfolding part_within
part-most part h = ten-digits part (leb-true _ _ (and_right (leb 1 part) _ h))

module _ (n : Need) (h : need_within n ≡ true) where
  need-most : length (digits n.part) + length (version_text n.least) ≤ 38
  unfolding need_within
  need-most =
      omega (
        arith,
        part-most n.part (and_left (part_within n.part) _ h),
        version-most n.least (and_right (part_within n.part) _ h),
      )

  need-line-most : length (need_line_text five_names n) ≤ 43
  unfolding need_line_text
  need-line-most = omega (arith, line-length [] [] (digits n.part) (version_text n.least) [], need-most)

need-lines-most : (ns : List Need) → needs_within ns ≡ true → length (need_lines_text five_names ns) ≤ 43 * length ns
unfolding needs_within need_lines_text
need-lines-most [] h = omega arith
need-lines-most (n ∷ ns) h =
    omega (
      arith,
      length-append (need_line_text five_names n) (need_lines_text five_names ns),
      need-line-most n (and_left (need_within n) _ h),
      need-lines-most ns (and_right (need_within n) _ h),
    )

module _ (part : ℕ) (version : Version) (stays : Bool) where
  -- the line that begins the cluster, with its first need
  abbrev beginning_line : List Need → List ℕ
  beginning_line ns = line_in five_names (digits part ∷ version_text version ∷ need_cells ns) (mark_text stays)

  module _ (h : part_within part ≡ true) (w : version_within version ≡ true) where
    with-cells-most : (y z : List ℕ) → length y + length z ≤ 38
        → length (line_in five_names (digits part ∷ version_text version ∷ y ∷ z ∷ []) (mark_text stays)) ≤ 82
    with-cells-most y z o =
        omega (
          arith,
          line-length (digits part) (version_text version) y z (mark_text stays),
          part-most part h,
          version-most version w,
          mark-length stays,
        )

    beginning-line-most : (ns : List Need) → needs_within ns ≡ true → length (beginning_line ns) ≤ 82
    unfolding needs_within
    beginning-line-most [] v = with-cells-most [] [] (omega arith)
    beginning-line-most (n ∷ ns) v =
        with-cells-most (digits n.part) (version_text n.least) (need-most n (and_left (need_within n) _ v))

    -- 82 + 3 × 43
    lines-most : (ns : List Need) → needs_within ns ≡ true → length ns ≤ needs_most
        → length (beginning_line ns) + length (need_lines_text five_names (drop 1 ns)) ≤ 211
    unfolding needs_within need_lines_text
    lines-most [] v o = omega (arith, beginning-line-most [] v)
    lines-most (n ∷ ns) v o = omega (arith, beginning-line-most (n ∷ ns) v, need-lines-most ns (and_right (need_within n) _ v))

pub cluster-lines-most : (c : Cluster) → cluster_within c ≡ true → length (cluster_lines five_names c) ≤ 211
unfolding cluster_within cluster_lines
cluster-lines-most c within =
    let behind-part = and_right (part_within c.part) _ within in
    let behind-version = and_right (version_within c.version) _ behind-part in
    omega (
      arith,
      length-append (beginning_line c.part c.version c.stays c.needs) (need_lines_text five_names (drop 1 c.needs)),
      lines-most c.part c.version c.stays (and_left (part_within c.part) _ within) (and_left (version_within c.version) _ behind-part)
          c.needs (and_right (leb (length c.needs) needs_most) _ behind-version) (leb-true (length c.needs) needs_most (and_left _ _ behind-version)),
    )

clusters-most : (last : ℕ) (t : Table) → rising_above last t ≡ true → length (clusters_text five_names t) ≤ 211 * length t
unfolding rising_above clusters_text
clusters-most last [] h = omega arith
clusters-most last (c ∷ t) h =
    let behind-over = and_right (ltb last c.part) _ h in
    omega (
      arith,
      length-append (cluster_lines five_names c) (clusters_text five_names t),
      cluster-lines-most c (and_left (cluster_within c) _ behind-over),
      clusters-most c.part t (and_right (cluster_within c) _ behind-over),
    )

-- 34 + 64 × 211
pub list-most : (t : Table) → table_within t ≡ true → length (write_list t) ≤ written_list_most
unfolding table_within list_text
list-most t h =
    omega (
      arith,
      length-append (names_line five_names) (clusters_text five_names t),
      names-length,
      clusters-most 0 t (and_right (leb (length t) clusters_most) _ h),
      leb-true (length t) clusters_most (and_left _ _ h),
    )

-- The texts of a list as the code goes along them: what is left of the needs of a cluster and of the clusters of a table, the parts of
-- a line, and how long each is. Assumes nothing.
use Prim.Native.Nat.{ℕ, ◌+◌, ◌≤◌, ◌<◌}
use mathlib.Core.Path.{◌≡◌, refl, sym, ap, ◌∙◌}
use mathlib.Core.Bool.{Bool, true}
use mathlib.Core.List.{List, [], ◌∷◌, ◌++◌, map, append_assoc}
use native.Mathlib.Numerals.{add-one}
use native.Mathlib.Omega.{arith}
use lib.ListN.{length, take, drop, get_or, length-append, length-map, get_or-map, drop_of_length-le}
use lib.Seq.{drop-cons}
use borrow.Author.Tests.{leb-true}
use Rattle.base.specs.Quoted.{comma, LF}
use Rattle.text.specs.declared.version.Version.{Version}
use Rattle.text.specs.Digits.{digits}
use Rattle.text.specs.Version.{version_text}
use Rattle.text.proofs.DigitLaws.{ten-digits}
use Rattle.text.proofs.PutPair.{Pair, pair-length}
use Rattle.rows.specs.Line.{line_text}
use Rattle.clusters.specs.declared.cluster.Need.{Need}
use Rattle.clusters.specs.declared.cluster.Cluster.{Cluster as ClusterStruct}
use Rattle.clusters.specs.declared.table.Table.{Table as TableStruct}
use Rattle.clusters.specs.Cluster.{Cluster, needs_most, cluster_within}
use Rattle.clusters.specs.Table.{Table, clusters_most, table_within}
use Rattle.clusters.specs.View.{no_need, no_cluster, view_cluster, view_table}
use Rattle.clusters.proofs.Along.{view-few, needs-step, needs-end, needs-count}
use Rattle.clusters.proofs.Limits.{cluster-at-within, cluster-few-needs, rising-clusters}
use Rattle.clusters.proofs.Views.{few-of-within}
use Rattle.cluster_list.specs.Write.{five_names, line_in, names_line, mark_text, need_cells, need_line_text, need_lines_text}
use Rattle.cluster_list.specs.Write.{cluster_lines, clusters_text, list_text, write_list}
use Rattle.cluster_list.proofs.Lengths.{names-length, mark-length, cluster-lines-most}
use Rattle.cluster_list_writer.specs.Fields.{fields_text, first_line}

-- ---- the parts of a line

-- the fields in front of the last one, and the last one
fields-line : (ws : List (List ℕ)) (v : List ℕ) → line_text (ws ++ v ∷ []) ≡ fields_text ws ++ line_text (v ∷ [])
unfolding line_text fields_text
fields-line [] v = refl
fields-line (w ∷ []) v = simp append_assoc
fields-line (w ∷ (x ∷ ws)) v = rw (fields-line (x ∷ ws) v) (simp append_assoc)

-- two fields, those behind them, and the mark with the LF
line-parts : (w x : List ℕ) (ws : List (List ℕ)) (mark : List ℕ)
    → line_in five_names (w ∷ x ∷ ws) mark ≡ fields_text (w ∷ x ∷ []) ++ (fields_text ws ++ line_text (mark ∷ []))
unfolding fields_text
line-parts w x ws mark = fields-line (w ∷ x ∷ ws) mark ∙ simp append_assoc

pub first-line-parts : (c : Cluster) → first_line c
    ≡ fields_text (digits c.part ∷ version_text c.version ∷ []) ++ (fields_text (need_cells c.needs) ++ line_text (mark_text c.stays ∷ []))
first-line-parts c = line-parts (digits c.part) (version_text c.version) (need_cells c.needs) (mark_text c.stays)

pub need-line-parts : (n : Need) → need_line_text five_names n ≡ (comma ∷ (comma ∷ [])) ++ (fields_text (need_cells (n ∷ [])) ++ (LF ∷ []))
unfolding need_line_text line_text fields_text
need-line-parts n = line-parts [] [] (need_cells (n ∷ [])) []

-- a byte that is a mark, and the LF behind it
pub mark-line : (stays : Bool) (byte : ℕ) → byte ∷ [] ≡ mark_text stays → line_text (mark_text stays ∷ []) ≡ byte ∷ (LF ∷ [])
unfolding line_text
mark-line stays byte e = rw (← e)

-- ---- how long the parts are

pub pair_of : (w x : List ℕ) → Pair (fields_text (w ∷ x ∷ [])) w comma x comma
unfolding fields_text
pair_of w x = record { parts = refl }

pub need-cells-length : (n : Need) → length (fields_text (need_cells (n ∷ []))) ≡ length (digits n.part) + length (version_text n.least) + 2
need-cells-length n = pair-length (pair_of (digits n.part) (version_text n.least))

need-line-length : (n : Need) → length (need_line_text five_names n) ≡ length (fields_text (need_cells (n ∷ []))) + 3
need-line-length n = ap length (need-line-parts n) ∙ simp length-append (omega arith)

mark-line-length : (stays : Bool) → length (line_text (mark_text stays ∷ [])) ≡ 2
unfolding line_text
mark-line-length stays = length-append (mark_text stays) (LF ∷ []) ∙ rw (mark-length stays)

pub cluster-length-parts : (c : Cluster) → length (cluster_lines five_names c)
    ≡ length (digits c.part) + length (version_text c.version) + 4 + length (fields_text (need_cells c.needs))
    + length (need_lines_text five_names (drop 1 c.needs))
unfolding cluster_lines
cluster-length-parts c =
    rw (first-line-parts c)
    (simp length-append (omega (arith, pair-length (pair_of (digits c.part) (version_text c.version)), mark-line-length c.stays)))

-- each part of a version fits a u32
pub version-wide : (v : Version) → v.first ≤ 4294967295 → v.second ≤ 4294967295 → v.third ≤ 4294967295 → v.fourth ≤ 4294967295
    → length (version_text v) ≤ 43
unfolding version_text
version-wide v a b c d =
    simp length-append
    (omega (arith, ten-digits v.first a, ten-digits v.second b, ten-digits v.third c, ten-digits v.fourth d))

-- ---- what is left of the needs of a cluster

-- the line of the need at i, and the lines of the needs from i on
abbrev pub need_line_at : ClusterStruct → ℕ → List ℕ
need_line_at c i = need_line_text five_names (get_or c.needs i no_need)

abbrev pub need_lines_from : ClusterStruct → ℕ → List ℕ
need_lines_from c i = need_lines_text five_names (drop i (view_cluster c).needs)

module _ (c : ClusterStruct) (few : c.need_count ≤ needs_most) (long : length c.needs ≡ needs_most) where
  pub no-first-cells : c.need_count < 1 → fields_text (need_cells (view_cluster c).needs) ≡ comma ∷ (comma ∷ [])
  unfolding fields_text
  no-first-cells h = ap (λ (ns : List Need). fields_text (need_cells ns)) (needs-end c few long 0 (omega arith))

  pub first-cells : 1 ≤ c.need_count → fields_text (need_cells (view_cluster c).needs) ≡ fields_text (need_cells (get_or c.needs 0 no_need ∷ []))
  first-cells h = ap (λ (ns : List Need). fields_text (need_cells ns)) (needs-step c few long 0 h)

  module _ (i : ℕ) where
    pub needs-left : i < c.need_count → need_lines_from c i ≡ need_line_at c i ++ need_lines_from c (i + 1)
    unfolding need_lines_text
    needs-left h = rw (needs-step c few long i h)

    pub needs-over : c.need_count ≤ i → need_lines_from c i ≡ []
    unfolding need_lines_text
    needs-over h = rw (needs-end c few long i h)

    pub needs-length-left : i < c.need_count
        → length (need_lines_from c i) ≡ length (fields_text (need_cells (get_or c.needs i no_need ∷ []))) + 3 + length (need_lines_from c (i + 1))
    needs-length-left h =
        ap length (needs-left h)
        ∙ omega (arith, length-append (need_line_at c i) (need_lines_from c (i + 1)), need-line-length (get_or c.needs i no_need))

pub cluster-few : (c : ClusterStruct) → cluster_within (view_cluster c) ≡ true → c.need_count ≤ needs_most
cluster-few c h = leb-true c.need_count needs_most (sym (needs-count c) ∙ cluster-few-needs (view_cluster c) h)

pub needs-length-most : (c : Cluster) → cluster_within c ≡ true → length (need_lines_text five_names (drop 1 c.needs)) ≤ 211
needs-length-most c h = omega (arith, cluster-length-parts c, cluster-lines-most c h)

-- ---- what is left of the clusters of a table

-- the clusters that the code goes along
abbrev pub listed : TableStruct → List ClusterStruct
listed t = take t.count t.clusters

-- the lines of clusters, and those of the cluster at i
abbrev pub lines_of : List ClusterStruct → List ℕ
lines_of cs = clusters_text five_names (map view_cluster cs)

abbrev pub cluster_lines_at : List ClusterStruct → ℕ → List ℕ
cluster_lines_at cs i = cluster_lines five_names (view_cluster (get_or cs i no_cluster))

module _ (cs : List ClusterStruct) (i : ℕ) where
  pub clusters-left : i < length cs → lines_of (drop i cs) ≡ cluster_lines_at cs i ++ lines_of (drop (i + 1) cs)
  unfolding clusters_text
  clusters-left h = rw (drop-cons cs i no_cluster h, add-one)

  pub clusters-over : length cs ≤ i → lines_of (drop i cs) ≡ []
  unfolding clusters_text
  clusters-over h = rw (drop_of_length-le cs h)

  pub clusters-length-left : i < length cs → length (lines_of (drop i cs)) ≡ length (cluster_lines_at cs i) + length (lines_of (drop (i + 1) cs))
  clusters-length-left h = ap length (clusters-left h) ∙ length-append (cluster_lines_at cs i) (lines_of (drop (i + 1) cs))

module _ (t : TableStruct) (h : table_within (view_table t) ≡ true) where
  pub table-lines : clusters_text five_names (view_table t) ≡ lines_of (listed t)
  table-lines = ap (clusters_text five_names) (view-few t (few-of-within t h))

  pub cluster-there-within : (i : ℕ) → i < length (listed t) → cluster_within (view_cluster (get_or (listed t) i no_cluster)) ≡ true
  cluster-there-within i o =
      let e = view-few t (few-of-within t h) in
      let there : i < length (view_table t) = rw (e, length-map (listed t) view_cluster) o in
      rw (e, get_or-map view_cluster (listed t) i no_cluster) at
      (cluster-at-within 0 (view_table t) i (view_cluster no_cluster) (rising-clusters (view_table t) h) there)

pub list-length-parts : (t : Table) → length (write_list t) ≡ 34 + length (clusters_text five_names t)
unfolding list_text
list-length-parts t = length-append (names_line five_names) (clusters_text five_names t) ∙ rw names-length

-- The parts of a list, each put behind the one before: the room that each has, and what they leave together. Assumes nothing.
use Prim.Native.Nat.{ℕ, ◌+◌, ◌≤◌, ◌<◌}
use mathlib.Core.Path.{◌≡◌, ◌∙◌}
use mathlib.Core.List.{List, [], ◌∷◌, ◌++◌}
use native.Mathlib.Omega.{arith}
use lib.ListN.{length, length-append, set}
use Rattle.base.specs.Quoted.{comma, LF}
use Rattle.text.specs.Digits.{digits}
use Rattle.text.specs.Put.{Put}
use Rattle.text.specs.Version.{version_text}
use Rattle.text.proofs.PutLaws.{put-length, put_byte, put-cons, put_then, room-first, room_next}
use Rattle.clusters.specs.declared.cluster.Need.{Need}
use Rattle.clusters.specs.declared.cluster.Cluster.{Cluster as ClusterStruct}
use Rattle.clusters.specs.Table.{Table}
use Rattle.clusters.specs.View.{view_cluster}
use Rattle.cluster_list.specs.Write.{five_names, names_line, mark_text, need_cells, need_line_text, cluster_lines, clusters_text, list_text, write_list}
use Rattle.cluster_list_writer.specs.Fields.{fields_text, first_line}
use Rattle.cluster_list_writer.proofs.Texts.{need-line-parts, first-line-parts, mark-line, need_lines_from}

-- ---- two bytes

pub two-put : (l : List ℕ) (at a b : ℕ) → Put l at (a ∷ (b ∷ [])) (at + 2) (set (set l at a) (at + 1) b)
two-put l at a b =
    let p : at + 2 ≡ at + 1 + 1 = omega arith in
    rw p (put-cons l at a (b ∷ []) _ _ (put_byte (set l at a) (at + 1) b))

-- ---- a line in three parts: two fields, the two behind them, and the last one

pub record ThreeParts (text first second last : List ℕ) : Type 0 where
  pub parts : text ≡ first ++ (second ++ last)

-- the byte is the cluster's mark
pub first-line : (d : ClusterStruct) (byte : ℕ) → byte ∷ [] ≡ mark_text d.stays
    → ThreeParts (first_line (view_cluster d)) (fields_text (digits d.part ∷ version_text d.version ∷ [])) (fields_text (need_cells (view_cluster d).needs))
    (byte ∷ (LF ∷ []))
first-line d byte e = record { parts = first-line-parts (view_cluster d) ∙ rw (mark-line d.stays byte e) }

pub need-line : (n : Need) → ThreeParts (need_line_text five_names n) (comma ∷ (comma ∷ [])) (fields_text (need_cells (n ∷ []))) (LF ∷ [])
need-line n = record { parts = need-line-parts n }

module _ {text first second last : List ℕ} (three : ThreeParts text first second last) (l : List ℕ) (at : ℕ) (o : at + length text ≤ length l) where
  whole : at + length (first ++ (second ++ last)) ≤ length l
  whole = rw three.parts at o

  pub room-one : at + length first ≤ length l
  room-one = room-first l at first (second ++ last) whole

  module _ (m : List ℕ) (p : ℕ) (f : Put l at first p m) where
    behind-one : p + length (second ++ last) ≤ length m
    behind-one = room_next l at first (second ++ last) m p whole f

    pub room-two : p + length second ≤ length m
    room-two = room-first m p second last behind-one

    module _ (k : List ℕ) (q : ℕ) (g : Put m p second q k) where
      pub room-three : q + length last ≤ length k
      room-three = room_next m p second last k q behind-one g

      -- where the last part is one byte, its place
      pub room-byte : 1 ≤ length last → q < length k
      room-byte some = omega (arith, room-three)

      pub three-put : (j : List ℕ) (r : ℕ) → Put k q last r j → Put l at text r j
      three-put j r h =
          rw three.parts (put_then l at first (second ++ last) m j p r f (put_then m p second last k j q r g h))

-- ---- the lines of a cluster

module _ (l : List ℕ) (at : ℕ) (d : ClusterStruct) (o : at + length (cluster_lines five_names (view_cluster d)) ≤ length l) where
  pub room-first-line : at + length (first_line (view_cluster d)) ≤ length l
  unfolding cluster_lines
  room-first-line = room-first l at (first_line (view_cluster d)) (need_lines_from d 1) o

  module _ (m : List ℕ) (p : ℕ) (f : Put l at (first_line (view_cluster d)) p m) where
    pub room-need-lines : p + length (need_lines_from d 1) ≤ length m
    unfolding cluster_lines
    room-need-lines = room_next l at (first_line (view_cluster d)) (need_lines_from d 1) m p o f

    pub cluster-put : (j : List ℕ) (r : ℕ) → Put m p (need_lines_from d 1) r j → Put l at (cluster_lines five_names (view_cluster d)) r j
    unfolding cluster_lines
    cluster-put j r g = put_then l at (first_line (view_cluster d)) (need_lines_from d 1) m j p r f g

-- ---- the list

module _ (l : List ℕ) (t : Table) (o : length (write_list t) ≤ length l) where
  pub room-names : length (names_line five_names) ≤ length l
  unfolding list_text
  room-names = omega (arith, length-append (names_line five_names) (clusters_text five_names t))

  module _ (m : List ℕ) (p : ℕ) (f : Put l 0 (names_line five_names) p m) where
    pub room-clusters : p + length (clusters_text five_names t) ≤ length m
    unfolding list_text
    room-clusters =
        omega (
          arith,
          length-append (names_line five_names) (clusters_text five_names t),
          f.behind,
          put-length l 0 (names_line five_names) m p f,
        )

    pub list_put : (j : List ℕ) (r : ℕ) → Put m p (clusters_text five_names t) r j → Put l 0 (write_list t) r j
    unfolding list_text
    list_put j r g = put_then l 0 (names_line five_names) (clusters_text five_names t) m j p r f g

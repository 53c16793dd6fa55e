-- The longest lists: a table that is written with `written_list_most` bytes, and a list of `read_list_most` bytes that is read. Both
-- have 64 clusters of four needs, each number as large as it may be; the one that can be read has each need on a line of its own.
-- Assumes nothing.
use Prim.Native.Nat.{ℕ, zero, suc, ◌+◌, ◌*◌, ◌≤◌, ◌<◌}
use mathlib.Core.Path.{◌≡◌, refl, ◌∙◌}
use mathlib.Core.Bool.{true, ◌&&◌}
use mathlib.Core.List.{List, [], ◌∷◌, ◌++◌}
use mathlib.Core.Option.{some}
use native.Mathlib.Omega.{arith}
use lib.Dec.{leb}
use lib.ListN.{length, replicate, length-append}
use borrow.Author.Tests.{le-leb}
use Rattle.base.proofs.Tests.{and_both}
use Rattle.base.specs.Quoted.{bytes}
use Rattle.text.specs.declared.version.Version.{Version}
use Rattle.text.specs.Digits.{digits_in, digits}
use Rattle.text.specs.Version.{version_part_most, version_last_most, version, version_within, version_text}
use Rattle.text.proofs.DigitLaws.{ten-digits, digits_from}
use Rattle.clusters.specs.declared.cluster.Need.{Need}
use Rattle.clusters.specs.Cluster.{Cluster, cluster, need, part_within, need_within, needs_within, needs_most, cluster_within}
use Rattle.clusters.specs.Table.{Table, clusters_most, rising_above, table_within}
use Rattle.clusters.proofs.Limits.{rising-is}
use Rattle.cluster_list.specs.Read.{read_list_most, read_list}
use Rattle.cluster_list.specs.Write.{written_list_most, five_names, line_in, names_line, need_line_text, need_lines_text, list_text, write_list}
use Rattle.cluster_list.proofs.RoundTrip.{lines_with, table_with, writer-table, list-with-back}
use Rattle.cluster_list.proofs.Lengths.{line-length, names-length}

-- ---- the largest values

abbrev largest_version : Version
largest_version = version version_part_most version_part_most version_part_most version_last_most

abbrev largest_need : Need
largest_need = need 4294967295 largest_version

abbrev largest : ℕ → Cluster
largest part = cluster part largest_version (replicate needs_most largest_need)

-- so many clusters, with the part numbers from `part` on
abbrev largest_from : ℕ → ℕ → Table
largest_from zero part = []
largest_from (suc n) part = largest part ∷ largest_from n (part + 1)

-- 64 clusters, the last of them with the largest part number
abbrev pub longest_table : Table
longest_table = largest_from clusters_most 4294967232

abbrev pub longest_list : List ℕ
longest_list = names_line five_names ++ table_with five_names 0 longest_table

-- ---- within the limits

largest-within : (part : ℕ) → 1 ≤ part → part ≤ 4294967295 → cluster_within (largest part) ≡ true
unfolding cluster_within part_within version_within needs_within need_within
largest-within part l m = and_both (leb 1 part && leb part 4294967295) _ (and_both (leb 1 part) _ (le-leb 1 part l) (le-leb part 4294967295 m)) refl

largest-rise : (n last part : ℕ) → last < part → part + n ≤ 4294967296 → rising_above last (largest_from n part) ≡ true
unfolding rising_above
largest-rise zero last part o m = refl
largest-rise (suc n) last part o m =
    rising-is last (largest part) (largest_from n (part + 1))
    (record { over = o; within = largest-within part (omega arith) (omega arith); rest = largest-rise n part (part + 1) (omega arith) (omega arith) })

pub longest-within : table_within longest_table ≡ true
unfolding table_within
longest-within = largest-rise 64 0 4294967232 (omega arith) (omega arith)

-- ---- their lengths

module _ (first each : ℕ) (long : (part : ℕ) → length (digits part) ≡ 10 → length (lines_with five_names first (largest part)) ≡ each) where
  largest-length : (n part : ℕ) → 1000000000 ≤ part → part + n ≤ 4294967296 → length (table_with five_names first (largest_from n part)) ≡ each * n
  unfolding table_with
  largest-length zero part l m = omega arith
  largest-length (suc n) part l m =
      let ten : length (digits part) ≡ 10 = omega (arith, ten-digits part (omega arith), digits_from 9 part l) in
      omega (
        arith,
        length-append (lines_with five_names first (largest part)) (table_with five_names first (largest_from n (part + 1))),
        long part ten,
        largest-length n (part + 1) (omega arith) (omega arith),
      )

part_bytes : length (digits 4294967295) ≡ 10
unfolding digits digits_in
part_bytes = refl

version-bytes : length (version_text largest_version) ≡ 28
unfolding version_text digits digits_in
version-bytes = refl

-- the line of a cluster with the fields y and z, and the lines of so many needs below it
abbrev largest_line : ℕ → List ℕ → List ℕ → List ℕ
largest_line part y z = line_in five_names (digits part ∷ version_text largest_version ∷ y ∷ z ∷ []) (bytes "0")

abbrev largest_below : ℕ → List ℕ
largest_below n = need_lines_text five_names (replicate n largest_need)

need-line-bytes : length (need_line_text five_names largest_need) ≡ 43
unfolding need_line_text
need-line-bytes =
    omega (arith, line-length [] [] (digits 4294967295) (version_text largest_version) [], part_bytes, version-bytes)

below-bytes : (n : ℕ) → length (largest_below n) ≡ 43 * n
unfolding need_lines_text
below-bytes zero = refl
below-bytes (suc n) =
    omega (arith, length-append (need_line_text five_names largest_need) (largest_below n), need-line-bytes, below-bytes n)

module _ (part : ℕ) (ten : length (digits part) ≡ 10) where
  line-bytes : (y z : List ℕ) → length (largest_line part y z) ≡ 44 + length y + length z
  line-bytes y z = omega (arith, line-length (digits part) (version_text largest_version) y z (bytes "0"), version-bytes)

  full-line-bytes : length (largest_line part (digits 4294967295) (version_text largest_version)) ≡ 82
  full-line-bytes = omega (arith, line-bytes (digits 4294967295) (version_text largest_version), part_bytes, version-bytes)

  first-on-line : length (lines_with five_names 1 (largest part)) ≡ 211
  unfolding lines_with
  first-on-line =
      length-append (largest_line part (digits 4294967295) (version_text largest_version)) (largest_below 3)
      ∙ omega (arith, full-line-bytes, below-bytes 3)

  all-below : length (lines_with five_names 0 (largest part)) ≡ 216
  unfolding lines_with
  all-below = length-append (largest_line part [] []) (largest_below 4) ∙ omega (arith, line-bytes [] [], below-bytes 4)

-- no list that is written is longer (proofs/Lengths.antt), and this one is as long
pub longest-written : length (write_list longest_table) ≡ written_list_most
unfolding list_text
longest-written =
    rw (writer-table five_names longest_table)
    (length-append (names_line five_names) (table_with five_names 1 longest_table)
    ∙ omega (arith, names-length, largest-length 1 211 first-on-line 64 4294967232 (omega arith) (omega arith)))

-- no list that is read is longer (proofs/ReadLengths.antt), and this one is as long
pub longest-read : (read_list longest_list ≡ some longest_table) × (length longest_list ≡ read_list_most)
longest-read = (
  list-with-back five_names 0 (omega arith) longest_table longest-within,
  length-append (names_line five_names) (table_with five_names 0 longest_table)
      ∙ omega (arith, names-length, largest-length 0 216 all-below 64 4294967232 (omega arith) (omega arith)),
)

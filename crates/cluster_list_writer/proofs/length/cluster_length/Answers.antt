-- `cluster_list_writer::length::cluster_length` meets its contract. Each sum is a part of the whole, which has at most 211 bytes.
-- Assumes nothing.
use Prim.Native.Nat.{◌+◌, ◌≤◌}
use native.Mathlib.Omega.{arith}
use lib.ListN.{length, drop}
use Rattle.text.specs.Digits.{digits}
use Rattle.text.specs.Version.{version_text}
use Rattle.clusters.specs.View.{view_cluster}
use Rattle.cluster_list.specs.Write.{five_names, need_cells, need_lines_text}
use Rattle.cluster_list.proofs.Lengths.{cluster-lines-most}
use Rattle.cluster_list_writer.specs.Fields.{fields_text}
use Rattle.cluster_list_writer.proofs.Texts.{cluster-few, cluster-length-parts}
use Rattle.cluster_list_writer.proofs.length.cluster_length.Goals.{Start}
use Rattle.cluster_list_writer.proofs.length.cluster_length.Goals as goal

whole : (c : Start) → (let d = view_cluster c.args.c in
    length (digits d.part) + length (version_text d.version) + 4 + length (fields_text (need_cells d.needs))
    + length (need_lines_text five_names (drop 1 d.needs)) ≤ 211)
whole c = omega (arith, cluster-length-parts (view_cluster c.args.c), cluster-lines-most (view_cluster c.args.c) c.requires)

pub overflow_add-result : goal.overflow_add-result
overflow_add-result c = omega (arith, whole (goal.at.overflow_add-result c).Start)

pub overflow_add-result-2 : goal.overflow_add-result-2
overflow_add-result-2 c = omega (arith, whole (goal.at.overflow_add-result-2 c).Start)

pub first_need_length-requires : goal.first_need_length-requires
first_need_length-requires c = cluster-few c.args.c c.requires

pub overflow_add-result-3 : goal.overflow_add-result-3
overflow_add-result-3 c = omega (arith, whole (goal.at.overflow_add-result-3 c).Start)

pub overflow_add-result-4 : goal.overflow_add-result-4
overflow_add-result-4 c = omega (arith, whole (goal.at.overflow_add-result-4 c).Start)

pub returns : goal.returns
returns c = omega (arith, cluster-length-parts (view_cluster c.args.c))

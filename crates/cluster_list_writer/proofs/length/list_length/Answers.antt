-- `cluster_list_writer::length::list_length` meets its contract. The loop's invariant: the total and the length of the lines of the
-- clusters left make the length of the list. Assumes nothing.
use Prim.Native.Nat.{◌+◌}
use native.Mathlib.Omega.{arith}
use mathlib.Core.Path.{◌≡◌, refl, ap}
use lib.ListN.{length}
use Rattle.clusters.specs.View.{view_table}
use Rattle.clusters.proofs.Views.{few-of-within}
use Rattle.cluster_list.specs.Write.{write_list}
use Rattle.cluster_list.proofs.Lengths.{list-most}
use Rattle.cluster_list_writer.proofs.Texts.{listed, lines_of, clusters-over, clusters-length-left, table-lines, cluster-there-within, list-length-parts}
use Rattle.cluster_list_writer.proofs.length.list_length.Goals.{Start}
use Rattle.cluster_list_writer.proofs.length.list_length.Goals as goal

-- the length of the list by that of its lines
whole : (c : Start) → length (write_list (view_table c.args.t)) ≡ 34 + length (lines_of (listed c.args.t))
whole c = omega (arith, list-length-parts (view_table c.args.t), ap length (table-lines c.args.t c.requires))

pub shared_ref_as_front-c-items : goal.shared_ref_as_front-c-items
shared_ref_as_front-c-items c = omega (arith, few-of-within c.args.t c.requires)

pub loop-c-init : goal.loop-c-init
loop-c-init c = refl

pub cluster_length-total-requires : goal.cluster_length-total-requires
cluster_length-total-requires c = cluster-there-within c.args.t c.requires c.loop-c.c-index c.loop-c-test.true

pub overflow_add-total : goal.overflow_add-total
overflow_add-total c =
    omega (arith, clusters-length-left (listed c.args.t) c.loop-c.c-index c.loop-c-test.true, whole (goal.at.overflow_add-total c).Start, list-most (view_table c.args.t) c.requires)

pub loop-c-preserved : goal.loop-c-preserved
loop-c-preserved c = omega (arith, clusters-length-left (listed c.args.t) c.loop-c.c-index c.loop-c-test.true)

pub returns : goal.returns
returns c =
    omega (arith, whole (goal.at.returns c).Start, ap length (clusters-over (listed c.args.t) c.loop-c.c-index c.loop-c-test.false))

-- `cluster_list_writer::length::need_lines_length` meets its contract. The loop's invariant: the total and the length of the lines
-- from i on make the length of all. Assumes nothing.
use Prim.Native.Nat.{◌+◌, ◌≤◌}
use native.Mathlib.Omega.{arith}
use mathlib.Core.Path.{◌≡◌, ap}
use mathlib.Core.List.{[], ◌∷◌}
use lib.ListN.{length, get_or}
use borrow.Author.Rules.{rules}
use Rattle.base.proofs.Counted.{unmapped}
use Rattle.clusters.specs.View.{no_need}
use Rattle.cluster_list.specs.Write.{need_cells}
use Rattle.cluster_list_writer.specs.Fields.{fields_text}
use Rattle.cluster_list_writer.proofs.Texts.{need_lines_from, cluster-few, needs-length-left, needs-length-most, needs-over}
use Rattle.cluster_list_writer.proofs.length.need_lines_length.Goals.{In-loop-i, Start}
use Rattle.cluster_list_writer.proofs.length.need_lines_length.Goals as goal

few : (c : Start) → c.args.c.need_count ≤ 4
few c = cluster-few c.args.c c.requires

long : (c : Start) → length c.args.c.needs ≡ 4
long c = search (rules, unmapped)

-- what the line of the need at i adds
step : (c : In-loop-i) → (let d = c.args.c in let i = c.loop-i.i in
    length (need_lines_from d i) ≡ length (fields_text (need_cells (get_or d.needs i no_need ∷ []))) + 3 + length (need_lines_from d (i + 1)))
step c =
    needs-length-left c.args.c (few c.before.before) (long c.before.before) c.loop-i.i c.loop-i-test.true

pub offset_bounds-c-i : goal.offset_bounds-c-i
offset_bounds-c-i c = omega (arith, few (goal.at.offset_bounds-c-i c).Start)

pub bounds-c-i : goal.bounds-c-i
bounds-c-i c = omega (arith, few (goal.at.bounds-c-i c).Start)

pub overflow_add-total : goal.overflow_add-total
overflow_add-total c = omega (arith, step (goal.at.overflow_add-total c).In-loop-i, needs-length-most _ c.requires)

pub overflow_add-total-in-loop-i : goal.overflow_add-total-in-loop-i
overflow_add-total-in-loop-i c = omega (arith, step (goal.at.overflow_add-total-in-loop-i c).In-loop-i, needs-length-most _ c.requires)

pub loop-i-preserved : goal.loop-i-preserved
loop-i-preserved c = omega (arith, step (goal.at.loop-i-preserved c).In-loop-i)

pub returns : goal.returns
returns c =
    omega (arith, ap length (needs-over c.args.c (few (goal.at.returns c).Start) (long (goal.at.returns c).Start) c.loop-i.i c.loop-i-test.false))

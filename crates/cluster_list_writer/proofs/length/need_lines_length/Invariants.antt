-- `cluster_list_writer::length::need_lines_length` meets its contract. The loop's invariant: the total and the length of the lines
-- from i on make the length of all. Assumes nothing.
use Prim.Native.Nat.{◌+◌}
use mathlib.Core.Path.{◌≡◌}
use lib.ListN.{length}
use Rattle.cluster_list_writer.proofs.Texts.{need_lines_from}
use Rattle.cluster_list_writer.proofs.length.need_lines_length.Given as goal

abbrev pub invariant-loop-i : goal.invariant-loop-i
invariant-loop-i l = l.total + length (need_lines_from l.c l.i) ≡ length (need_lines_from l.c 1)

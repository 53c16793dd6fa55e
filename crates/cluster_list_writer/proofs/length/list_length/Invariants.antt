-- `cluster_list_writer::length::list_length` meets its contract. The loop's invariant: the total and the length of the lines of the
-- clusters left make the length of the list. Assumes nothing.
use Prim.Native.Nat.{◌+◌}
use mathlib.Core.Path.{◌≡◌}
use lib.ListN.{length, drop}
use Rattle.cluster_list_writer.proofs.Texts.{lines_of}
use Rattle.cluster_list_writer.proofs.length.list_length.Given as goal

abbrev pub invariant-loop-c : goal.invariant-loop-c
invariant-loop-c l = l.total + length (lines_of (drop l.c-index l.c-items)) ≡ 34 + length (lines_of l.c-items)

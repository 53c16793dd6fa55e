-- `cluster_list_writer::put::put_need_lines` meets its contract. The loop's invariant: with the lines of the needs from i on put at
-- `at`, the whole text stands. Assumes nothing.
use Rattle.cluster_list_writer.proofs.Texts.{need_lines_from}
use Rattle.text.proofs.Putting.{Putting}
use Rattle.cluster_list_writer.proofs.put.put_need_lines.Given as goal

abbrev pub invariant-loop-i : goal.invariant-loop-i
invariant-loop-i l = Putting l.initial.buf l.from (need_lines_from l.c 1) l.buf l.at (need_lines_from l.c l.i)

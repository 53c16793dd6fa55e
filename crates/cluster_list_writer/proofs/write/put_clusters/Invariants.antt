-- `cluster_list_writer::write::put_clusters` meets its contract. The loop's invariant: with the lines of the clusters left put at `at`,
-- the whole text stands. Assumes nothing.
use lib.ListN.{drop}
use Rattle.cluster_list_writer.proofs.Texts.{lines_of}
use Rattle.text.proofs.Putting.{Putting}
use Rattle.cluster_list_writer.proofs.write.put_clusters.Given as goal

abbrev pub invariant-loop-c : goal.invariant-loop-c
invariant-loop-c l = Putting l.initial.buf l.from (lines_of l.c-items) l.buf l.at (lines_of (drop l.c-index l.c-items))

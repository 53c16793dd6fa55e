-- `cluster_list_writer::put::put_two` meets its contract. Assumes nothing.
use native.Mathlib.Omega.{arith}
use lib.ListN.{length-set}
use Rattle.cluster_list_writer.proofs.PutParts.{two-put}
use Rattle.cluster_list_writer.proofs.put.put_two.Goals as goal

pub bounds-buf-at-2 : goal.bounds-buf-at-2
bounds-buf-at-2 c = simp length-set (omega arith)

pub returns : goal.returns
returns c = search two-put

-- `cluster_list_writer::put::mark_byte` meets its contract. Assumes nothing.
use Rattle.cluster_list_writer.proofs.put.mark_byte.Goals as goal

pub returns-then-stays : goal.returns-then-stays
returns-then-stays c = rw c.if-stays.true

pub returns-else-stays : goal.returns-else-stays
returns-else-stays c = rw c.if-stays.false

-- `cluster_list::read::read_list` meets its contract: what the exact answer says is what is read. Assumes nothing.
use Rattle.cluster_list.specs.Read.{read_list}
use Rattle.cluster_list.proofs.Within.{table-read}
use Rattle.cluster_list.proofs.read.read_list.Goals as goal

pub returns-clause-meaning : goal.returns-clause-meaning
unfolding read_list
returns-clause-meaning c = table-read _ _ (rw (← c.list_columns.ensures, c.in_ok-columns.was) c.value_lines.ensures)

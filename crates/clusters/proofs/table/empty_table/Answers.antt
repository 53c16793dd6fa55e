-- `clusters::table::empty_table` meets its contract. Assumes nothing.
use Rattle.clusters.specs.Exact.{new_cluster, empty_table}
use Rattle.clusters.proofs.table.empty_table.Goals as goal

pub returns : goal.returns
unfolding new_cluster empty_table
returns c = rw c.new_cluster.ensures

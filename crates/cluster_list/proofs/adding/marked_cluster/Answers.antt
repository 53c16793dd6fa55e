-- `cluster_list::adding::marked_cluster` meets its contract: the cluster with its need, and then the mark. Assumes nothing.
use Rattle.cluster_list.proofs.ReadLaws.{marked}
use Rattle.cluster_list.proofs.adding.marked_cluster.Goals as goal

pub returns : goal.returns
returns c = search marked

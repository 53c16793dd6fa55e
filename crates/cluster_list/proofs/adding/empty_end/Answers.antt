-- `cluster_list::adding::empty_end` meets its contract. Assumes nothing.
use Rattle.clusters.proofs.Structs.{struct-new-cluster}
use Rattle.clusters.specs.View.{no_version}
use Rattle.cluster_list.specs.Read.{end_of}
use Rattle.cluster_list.proofs.adding.empty_end.Goals as goal

pub returns : goal.returns
unfolding end_of
returns c = rw (c.new_cluster.ensures, struct-new-cluster 0 no_version)

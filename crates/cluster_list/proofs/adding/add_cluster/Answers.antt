-- `cluster_list::adding::add_cluster` meets its contract: the two tests, and the cluster put. Assumes nothing.
use Rattle.cluster_list.proofs.EndLaws.{added}
use Rattle.cluster_list.proofs.adding.add_cluster.Goals.{then-end-ge-CLUSTERS_MOST-via-then-end-ge-CLUSTERS_MOST, then-end-ge-CLUSTERS_MOST-via-else-end-ge-CLUSTERS_MOST+then-part-end}
use Rattle.cluster_list.proofs.adding.add_cluster.Goals as goal

pub returns-then-end-ge-CLUSTERS_MOST : goal.returns-then-end-ge-CLUSTERS_MOST
returns-then-end-ge-CLUSTERS_MOST c = λ t e.
    elim c.then-end-ge-CLUSTERS_MOST.branch [
      | then-end-ge-CLUSTERS_MOST-via-then-end-ge-CLUSTERS_MOST w ↦ search added
      | then-end-ge-CLUSTERS_MOST-via-else-end-ge-CLUSTERS_MOST+then-part-end w ↦ search added
    ]

pub returns : goal.returns
returns c = λ t e. search added

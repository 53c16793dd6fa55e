-- `cluster_list::adding::add_need` meets its contract: the two tests, and the need put. Assumes nothing.
use Rattle.cluster_list.proofs.EndLaws.{added}
use Rattle.cluster_list.proofs.adding.add_need.Goals.{then-end-lt1-via-then-end-lt1, then-end-lt1-via-else-end-lt1+then-end-ge-NEEDS_MOST}
use Rattle.cluster_list.proofs.adding.add_need.Goals as goal

pub returns-then-end-lt1 : goal.returns-then-end-lt1
returns-then-end-lt1 c = λ t e.
    elim c.then-end-lt1.branch [
      | then-end-lt1-via-then-end-lt1 w ↦ search added
      | then-end-lt1-via-else-end-lt1+then-end-ge-NEEDS_MOST w ↦ search added
    ]

pub returns : goal.returns
returns c = λ t e. search added

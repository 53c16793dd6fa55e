-- `cluster_list::adding::add_line` meets its contract: each case by what it calls. Assumes nothing.
use Rattle.cluster_list.proofs.EndLaws.{said-so}
use Rattle.cluster_list.proofs.adding.add_line.Goals as goal

pub returns-in-Begins : goal.returns-in-Begins
returns-in-Begins c = λ t e. search (said-so, c.add_cluster.ensures t e)

pub returns-in-Adds : goal.returns-in-Adds
returns-in-Adds c = λ t e. search (said-so, c.add_need.ensures t e)

-- `cluster_list::cells::cluster_with` meets its contract: a new cluster, with the need of its line where there is one. Assumes nothing.
use Rattle.cluster_list.proofs.FirstNeed.{new-room, no-first-need, first-need}
use Rattle.cluster_list.proofs.cells.cluster_with.Goals as goal

pub with_need-requires : goal.with_need-requires
with_need-requires c = search new-room

pub returns-in-Some : goal.returns-in-Some
returns-in-Some c = search first-need

pub returns-in-None : goal.returns-in-None
returns-in-None c = search no-first-need

-- `cluster_list_writer::put::put_cluster` meets its contract: two texts put one behind the other, each with its room. Assumes nothing.
use Rattle.cluster_list_writer.proofs.PutParts.{room-first-line, room-need-lines, cluster-put}
use borrow.Author.Rules.{rules}
use Rattle.cluster_list_writer.proofs.put.put_cluster.Goals as goal

pub put_first_line-behind_line-requires : goal.put_first_line-behind_line-requires
put_first_line-behind_line-requires c = search (rules, room-first-line)

pub put_need_lines-requires : goal.put_need_lines-requires
put_need_lines-requires c = search (rules, room-need-lines)

pub returns : goal.returns
returns c = search cluster-put

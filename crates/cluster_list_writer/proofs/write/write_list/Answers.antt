-- `cluster_list_writer::write::write_list` meets its contract: the names line, and the clusters behind it. Assumes nothing.
use Rattle.rows.specs.Line.{line_text}
use Rattle.cluster_list_writer.proofs.PutParts.{room-names, room-clusters, list_put}
use borrow.Author.Rules.{rules}
use Rattle.cluster_list_writer.proofs.write.write_list.Goals as goal

pub put_bytes-behind_names-requires : goal.put_bytes-behind_names-requires
unfolding line_text
put_bytes-behind_names-requires c = search room-names

pub put_clusters-requires : goal.put_clusters-requires
unfolding line_text
put_clusters-requires c = search (rules, room-clusters)

pub returns : goal.returns
unfolding line_text
returns c = search list_put

-- `cluster_list_writer::put::put_first_line` meets its contract: three texts put one behind the other, each with its room. Assumes nothing.
use Rattle.cluster_list_writer.proofs.PutParts.{first-line, room-one, room-two, room-three, three-put}
use borrow.Author.Rules.{rules}
use Rattle.cluster_list_writer.proofs.put.put_first_line.Goals as goal

pub put_pair-behind_version-requires : goal.put_pair-behind_version-requires
put_pair-behind_version-requires c = search (first-line, room-one)

pub put_first_need-behind_need-requires : goal.put_first_need-behind_need-requires
put_first_need-behind_need-requires c = search (rules, first-line, room-two)

pub put_two-requires : goal.put_two-requires
put_two-requires c =
    search (room-three (first-line c.args.c c.mark_byte-mark.result c.mark_byte-mark.ensures))

pub returns : goal.returns
returns c = search (first-line, three-put)

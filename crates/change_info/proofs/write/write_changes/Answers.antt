-- `change_info::write::write_changes` meets its contract: the names line, and the lines behind it. Assumes nothing.
use Rattle.rows.specs.Line.{line_text}
use Rattle.change_info.proofs.ListedLines.{room-names, room-lines, text-put}
use borrow.Author.Rules.{rules}
use Rattle.change_info.proofs.write.write_changes.Goals as goal

pub put_bytes-behind_names-requires : goal.put_bytes-behind_names-requires
unfolding line_text
put_bytes-behind_names-requires c = search room-names

pub put_changes-requires : goal.put_changes-requires
unfolding line_text
put_changes-requires c = search (rules, room-lines)

pub returns : goal.returns
unfolding line_text
returns c = search text-put

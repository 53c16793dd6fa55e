-- `script_answers::named::put_line` meets its contract. Assumes nothing.
use borrow.Author.Rules.{rules}
use Rattle.script_answers.proofs.Laws.{put-inside, put-counts}
use Rattle.script_answers.proofs.named.put_line.Goals as goal

pub returns : goal.returns
returns c = record { line = search rules; inside = search (put-inside, put-counts) }

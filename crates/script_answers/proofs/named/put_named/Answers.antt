-- `script_answers::named::put_named` meets its contract: the name, and the number behind it. Assumes nothing.
use Rattle.script_answers.proofs.Laws.{line-put, line-inside, line-counts}
use Rattle.script_answers.proofs.named.put_named.Goals as goal

pub returns : goal.returns
returns c = record { line = search line-put; inside = search (line-inside, line-counts) }

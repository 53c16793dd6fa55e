-- `script_answers::named::put_wave` meets its contract: one number behind the other. Assumes nothing.
use borrow.Author.Rules.{rules}
use Rattle.script_answers.proofs.Laws.{wave-put, counted}
use Rattle.script_answers.proofs.named.put_wave.Goals as goal

pub returns : goal.returns
returns c = record { line = search wave-put; inside = (search rules, counted _ _ (search rules)) }

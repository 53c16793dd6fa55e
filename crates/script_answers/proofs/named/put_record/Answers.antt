-- `script_answers::named::put_record` meets its contract: one number behind the other. Assumes nothing.
use borrow.Author.Rules.{rules}
use Rattle.script_answers.proofs.Laws.{record-put, counted}
use Rattle.script_answers.proofs.named.put_record.Goals as goal

pub returns : goal.returns
returns c = record { line = search record-put; inside = (search rules, counted _ _ (search rules)) }

-- `clist::print::put_answer_to_read` puts what is printed of every input of which the bytes were read. Assumes nothing.
use Rattle.clist.proofs.FirstBytes.{answers, answer-inside}
use borrow.Author.Rules.{rules}
use Rattle.clist.proofs.print.put_answer_to_read.Goals as goal

pub returns : goal.returns
returns c = record { answer = search (answers, rules); inside = answer-inside _ _ _ _ c.put_answer.ensures (search rules) }

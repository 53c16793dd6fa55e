-- `script::words::number_word` meets its contract: the part up to the end of the word is one number. Assumes nothing.
use Rattle.script.proofs.WordLaws.{number-none, number-ill, number_read}
use Rattle.script.proofs.words.number_word.Goals as goal

pub returns-then-s-cursor : goal.returns-then-s-cursor
returns-then-s-cursor c = search number-none

pub returns-in_err-n : goal.returns-in_err-n
returns-in_err-n c = search (number-ill, c.in_err-n.was)

pub returns : goal.returns
returns c = search (number_read, c.in_ok-n.was)

-- `script::words::word_end` meets its contract: the word ends at the first space, or with the line. Assumes nothing.
use Rattle.script.proofs.WordLaws.{word-found, word-not-found}
use Rattle.script.proofs.words.word_end.Goals as goal

pub returns-in-Some-clause-end : goal.returns-in-Some-clause-end
returns-in-Some-clause-end c = search word-found

pub returns-in-None-clause-end : goal.returns-in-None-clause-end
returns-in-None-clause-end c = search word-not-found

-- `script::old::old_line` meets its contract: a law for each way out. Assumes nothing.
use Rattle.script.proofs.LineLaws.{old-none, old-cancel, old_fixed}
use Rattle.script.proofs.old.old_line.Goals as goal

pub returns-then-s-from : goal.returns-then-s-from
returns-then-s-from c = search old-none

pub returns-then-is_word : goal.returns-then-is_word
returns-then-is_word c = search old-cancel

pub returns : goal.returns
returns c = search old_fixed

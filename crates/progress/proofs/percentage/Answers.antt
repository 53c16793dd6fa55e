-- `progress::percentage` meets its contract: 100 for payload 0, else the floor. Assumes nothing.
use borrow.Author.Rules.{rules}
use Rattle.base.proofs.Ladder.{ladder}
use Rattle.model.specs.Reading.{progress_of}
use Rattle.progress.proofs.percentage.Goals as goal

pub returns-then-w-eq0 : goal.returns-then-w-eq0
unfolding progress_of
returns-then-w-eq0 c = search ladder

pub returns-else-w-eq0 : goal.returns-else-w-eq0
unfolding progress_of
returns-else-w-eq0 c = search ladder

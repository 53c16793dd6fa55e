-- `start_waves::rounds::joins_at` meets its contract. Assumes nothing.
use Rattle.base.proofs.Ladder.{ladder}
use Rattle.start_waves.proofs.rounds.joins_at.Goals as goal

pub returns-then-waves-own-ne0 : goal.returns-then-waves-own-ne0
returns-then-waves-own-ne0 c = search ladder

pub returns-then-closing : goal.returns-then-closing
returns-then-closing c = search ladder

pub returns : goal.returns
returns c = search ladder

-- `session_calls::moves::move_to` meets its contract: the two ways out. Assumes nothing.
use Rattle.session_calls.proofs.MoveLaws.{move-refused, move-accepted}
use Rattle.session_calls.proofs.moves.move_to.Goals as goal

pub returns-then-not-allowed : goal.returns-then-not-allowed
returns-then-not-allowed c = search move-refused

pub returns : goal.returns
returns c = search move-accepted

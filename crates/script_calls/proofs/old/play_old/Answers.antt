-- `script_calls::old::play_old` meets its contract: what is lent is the first bytes, and the call gives what `four_state::call::old_call` promises.
-- Assumes nothing.
use Rattle.script_calls.proofs.LineLaws.{old-played}
use Rattle.script_calls.proofs.LentLaws.{lent-long}
use Rattle.script_calls.proofs.old.play_old.Goals as goal

pub slice_bounds-old_call-end : goal.slice_bounds-old_call-end
slice_bounds-old_call-end c = search lent-long

pub returns : goal.returns
returns c = search old-played

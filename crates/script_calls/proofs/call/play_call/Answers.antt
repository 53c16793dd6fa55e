-- `script_calls::call::play_call` meets its contract: what is lent is the first bytes, and the call gives what `manager::call` promises. Assumes nothing.
use Rattle.script_calls.proofs.LineLaws.{call_played}
use Rattle.script_calls.proofs.LentLaws.{lent-within, lent-long}
use Rattle.script_calls.proofs.call.play_call.Goals as goal

pub slice_bounds-call-end : goal.slice_bounds-call-end
slice_bounds-call-end c = search lent-within

pub slice_bounds-call-end-2 : goal.slice_bounds-call-end-2
slice_bounds-call-end-2 c = search lent-long

pub returns : goal.returns
returns c = search call_played

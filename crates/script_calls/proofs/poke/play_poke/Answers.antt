-- `script_calls::poke::play_poke` meets its contract: what is lent is the first bytes, and the others keep their values. Assumes nothing.
use Rattle.script_calls.proofs.LineLaws.{poke-played}
use Rattle.script_calls.proofs.LentLaws.{lent-within, lent-long}
use Rattle.script_calls.proofs.poke.play_poke.Goals as goal

pub slice_bounds-poke-end : goal.slice_bounds-poke-end
slice_bounds-poke-end c = search lent-within

pub slice_bounds-poke-end-2 : goal.slice_bounds-poke-end-2
slice_bounds-poke-end-2 c = search lent-long

pub returns : goal.returns
returns c = search poke-played

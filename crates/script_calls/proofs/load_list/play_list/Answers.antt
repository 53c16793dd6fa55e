-- `script_calls::load_list::play_list` meets its contract: a law for each way out. Assumes nothing.
use Rattle.script_calls.proofs.LentLaws.{part-long}
use Rattle.script_calls.proofs.LineLaws.{load_past, load-played}
use Rattle.script_calls.proofs.load_list.play_list.Goals as goal

pub returns-then-bytes-count : goal.returns-then-bytes-count
returns-then-bytes-count c = search load_past

pub slice_bounds-load-end-2 : goal.slice_bounds-load-end-2
slice_bounds-load-end-2 c = search part-long

pub returns : goal.returns
returns c = search load-played

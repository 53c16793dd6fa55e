-- `replay_bench::waves::waves_line` is safe: what is lent is a part of the list. Assumes nothing.
use Rattle.script_calls.proofs.LentLaws.{lent-within, lent-long}
use Rattle.replay_bench.proofs.waves.waves_line.Goals as goal

pub slice_bounds-list-end : goal.slice_bounds-list-end
slice_bounds-list-end c = search lent-within

pub slice_bounds-waves-end : goal.slice_bounds-waves-end
slice_bounds-waves-end c = search lent-long

-- `replay_bench::reading::changes_line` is safe: what is lent is a part of the buffer. Assumes nothing.
use Rattle.script_calls.proofs.LentLaws.{lent-within, lent-long}
use Rattle.replay_bench.proofs.reading.changes_line.Goals as goal

pub slice_bounds-change_info-end : goal.slice_bounds-change_info-end
slice_bounds-change_info-end c = search lent-within

pub slice_bounds-change_info-end-2 : goal.slice_bounds-change_info-end-2
slice_bounds-change_info-end-2 c = search lent-long

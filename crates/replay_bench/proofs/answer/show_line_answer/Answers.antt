-- `replay_bench::answer::show_line_answer` is safe: what is lent is a part of the bytes. Assumes nothing.
use Rattle.script_calls.proofs.LentLaws.{lent-long}
use Rattle.replay_bench.proofs.answer.show_line_answer.Goals as goal

pub slice_bounds-show_reading-end : goal.slice_bounds-show_reading-end
slice_bounds-show_reading-end c = search lent-long

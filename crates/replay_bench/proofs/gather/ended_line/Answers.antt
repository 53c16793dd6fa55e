-- `replay_bench::gather::ended_line` meets its contract: the text is the line without its LF. Assumes nothing.
use borrow.Author.Rules.{rules}
use Rattle.script_calls.proofs.LentLaws.{part-long}
use Rattle.replay_bench.proofs.BenchLaws.{text-inside, ends_as}
use Rattle.replay_bench.proofs.gather.ended_line.Goals as goal

pub slice_bounds-script_line_at-end : goal.slice_bounds-script_line_at-end
slice_bounds-script_line_at-end c = search (part-long, text-inside)

pub returns : goal.returns
returns c = (search rules, search text-inside, search ends_as)

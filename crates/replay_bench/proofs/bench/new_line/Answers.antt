-- `replay_bench::bench::new_line` meets its contract. Assumes nothing.
use Rattle.replay_bench.proofs.BenchLaws.{line-begins}
use Rattle.replay_bench.proofs.bench.new_line.Goals as goal

pub returns : goal.returns
returns c = search line-begins

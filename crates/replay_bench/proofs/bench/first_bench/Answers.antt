-- `replay_bench::bench::first_bench` meets its contract. Assumes nothing.
use Rattle.replay_bench.proofs.BenchLaws.{nothing_read}
use Rattle.replay_bench.proofs.bench.first_bench.Goals as goal

pub returns : goal.returns
returns c = search nothing_read

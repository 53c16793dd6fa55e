-- `replay_bench::store_bytes` gives as many bytes as it says: a law of every number of bytes, so that none is counted. Assumes nothing.
use Rattle.script.specs.Limits.{store_most}
use Rattle.replay_bench.proofs.Laws.{as_many}
use Rattle.replay_bench.proofs.store_bytes.Goals as goal

pub returns : goal.returns
returns c = as_many store_most

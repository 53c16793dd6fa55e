-- `replay_bench::gather::ended_count` meets its contract: a law for each way out. Assumes nothing.
use borrow.Author.Rules.{rules}
use Rattle.replay_bench.proofs.BenchLaws.{count-too-long, count_past, count-whole}
use Rattle.replay_bench.proofs.gather.ended_count.Goals as goal

pub returns-then-gathered : goal.returns-then-gathered
returns-then-gathered c = (search rules, search count-too-long)

pub returns-then-line-gathered : goal.returns-then-line-gathered
returns-then-line-gathered c = (search rules, search count_past)

pub returns-else-line-gathered : goal.returns-else-line-gathered
returns-else-line-gathered c = (search rules, search count-whole)

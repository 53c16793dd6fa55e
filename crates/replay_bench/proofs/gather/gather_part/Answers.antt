-- `replay_bench::gather::gather_part` meets its contract: the part is the rest of the input up to its first LF. Assumes nothing.
use borrow.Author.Rules.{rules}
use Rattle.replay_bench.proofs.InputLaws.{gathers-part}
use Rattle.replay_bench.proofs.gather.gather_part.Goals as goal

pub returns : goal.returns
returns c = (search rules, search rules, search gathers-part)

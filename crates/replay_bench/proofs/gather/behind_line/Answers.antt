-- `replay_bench::gather::behind_line` meets its contract: a law where an LF is found and one where none is. Assumes nothing.
use borrow.Author.Rules.{rules}
use Rattle.replay_bench.proofs.InputLaws.{behind-some, behind-all}
use Rattle.replay_bench.proofs.gather.behind_line.Goals as goal

pub returns-then-end-input : goal.returns-then-end-input
returns-then-end-input c = (search rules, search rules, search behind-some)

pub returns : goal.returns
returns c = (search rules, search rules, search behind-all)

-- `work_on_payload::accept_work` meets its contract: what was summed keeps the running sums within their limit. Assumes nothing.
use borrow.Author.Rules.{rules}
use Rattle.work_on_payload.proofs.PayloadLaws.{summed-within}
use Rattle.work_on_payload.proofs.accept_work.Goals as goal

pub compare_sum-requires : goal.compare_sum-requires
compare_sum-requires c = search (rules, summed-within)

-- `examples::sums::sum_of` is safe: each running pair that it hands on is within its limits. Assumes nothing.
use Rattle.checksum.proofs.Laws.{start-within, continued-within}
use Rattle.examples.proofs.sums.sum_of.Goals as goal

pub continue_sum-requires : goal.continue_sum-requires
continue_sum-requires c = rw c.start.ensures start-within

pub continue_sum-requires-2 : goal.continue_sum-requires-2
continue_sum-requires-2 c = rw c.continue_sum.ensures (continued-within _ _ (rw c.start.ensures start-within))

pub number-requires : goal.number-requires
number-requires c = rw c.continue_sum-2.ensures (continued-within _ _ (rw c.continue_sum.ensures (continued-within _ _ (rw c.start.ensures start-within))))

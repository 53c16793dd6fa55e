-- `examples::comparisons::needs` is safe: a table that was read is within its limits. Assumes nothing.
use Rattle.cluster_list.proofs.Within.{list-or-empty-within}
use Rattle.examples.proofs.comparisons.needs.Goals as goal

pub needs_met-requires : goal.needs_met-requires
needs_met-requires c = search list-or-empty-within

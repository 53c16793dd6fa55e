-- `examples::comparisons::is_met` is safe: the empty table has room for a cluster. Assumes nothing.
use mathlib.Core.Path.{ap}
use native.Mathlib.Omega.{arith}
use Rattle.clusters.specs.declared.table.Table.{Table}
use Rattle.clusters.specs.Exact.{empty_table, append}
use Rattle.examples.proofs.comparisons.is_met.Goals as goal

pub append-table-requires : goal.append-table-requires
unfolding empty_table
append-table-requires c = omega (arith, ap (λ (t : Table). t.count) c.empty_table.ensures)

pub meets-requires : goal.meets-requires
unfolding empty_table append
meets-requires c = omega (arith, ap (λ (t : Table). t.count) c.append-table.ensures, ap (λ (t : Table). t.count) c.empty_table.ensures)

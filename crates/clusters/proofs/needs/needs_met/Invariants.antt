-- `clusters::needs::needs_met` meets its contract. The loop's invariant: the needs of all clusters are met exactly where those of the
-- clusters from the index on are. Assumes nothing.
use mathlib.Core.Path.{◌≡◌}
use mathlib.Core.List.{map}
use lib.ListN.{drop}
use Rattle.clusters.specs.Table.{needs_met_of, needs_met}
use Rattle.clusters.specs.View.{view_cluster, view_table}
use Rattle.clusters.proofs.needs.needs_met.Given as goal

abbrev pub invariant-loop-c : goal.invariant-loop-c
invariant-loop-c l = needs_met (view_table l.fn.t) ≡ needs_met_of (view_table l.fn.t) (map view_cluster (drop l.c-index l.c-items))

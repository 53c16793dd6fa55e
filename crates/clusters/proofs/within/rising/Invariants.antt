-- `clusters::within::rising` meets its contract. The loop's invariant: the table rises exactly where the clusters from the index on rise
-- above the last part number. Assumes nothing.
use mathlib.Core.Path.{◌≡◌}
use mathlib.Core.List.{map}
use lib.ListN.{drop}
use Rattle.clusters.specs.Table.{rising_above}
use Rattle.clusters.specs.View.{view_cluster, view_table}
use Rattle.clusters.proofs.within.rising.Given as goal

abbrev pub invariant-loop-c : goal.invariant-loop-c
invariant-loop-c l = rising_above 0 (view_table l.fn.t) ≡ rising_above l.last (map view_cluster (drop l.c-index l.c-items))

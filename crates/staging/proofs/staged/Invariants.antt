-- `staging::staged` meets its contract. The loop's invariant: the staged table is the table so far with the entries from i on applied.
-- Assumes nothing.
use mathlib.Core.Path.{◌≡◌}
use lib.ListN.{take, drop}
use Rattle.staging.specs.Staged.{staged_from, staged_table}
use Rattle.staging.proofs.staged.Given as goal

abbrev pub invariant-loop-i : goal.invariant-loop-i
invariant-loop-i l = staged_table l.session ≡ staged_from l.table (drop l.i (take l.session.count l.session.entries))

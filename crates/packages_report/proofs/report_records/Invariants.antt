-- `packages_report::report_records` meets its contract. The loop's invariant: the first i records are written, and those behind them keep
-- their values. Assumes nothing.
use mathlib.Core.Path.{◌≡◌}
use Rattle.packages_report.specs.Records.{recorded}
use Rattle.packages_report.proofs.Recorded.{first_from}
use Rattle.packages_report.proofs.report_records.Given as goal

abbrev pub invariant-loop-i : goal.invariant-loop-i
invariant-loop-i l = l.list ≡ first_from l.i (recorded l.t) l.fn.list

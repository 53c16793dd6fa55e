-- `start_waves::report_waves` meets its contract: too short, with the number of clusters, or written. Assumes nothing.
use mathlib.Core.Path.{◌≡◌, sym}
use lib.ListN.{length}
use borrow.Author.Rules.{rules}
use Rattle.base.proofs.Counted.{unmapped}
use Rattle.clusters.specs.Table.{clusters_most}
use Rattle.clusters.proofs.Along.{table-length}
use Rattle.clusters.proofs.Views.{few-of-within}
use Rattle.start_waves.proofs.Reports.{short-waves, given-waves}
use Rattle.start_waves.proofs.report_waves.Goals.{Start}
use Rattle.start_waves.proofs.report_waves.Goals as goal

long : (c : Start) → length c.args.table.clusters ≡ clusters_most
long c = search (rules, unmapped)

pub returns-then-buffer-needed : goal.returns-then-buffer-needed
returns-then-buffer-needed c =
    short-waves _ _ _ (sym (table-length c.args.table (few-of-within _ c.requires) (long (goal.at.returns-then-buffer-needed c).Start))) c.if-buffer-needed.true

pub returns : goal.returns
returns c =
    given-waves _ _ _ (sym (table-length c.args.table (few-of-within _ c.requires) (long (goal.at.returns c).Start))) c.requires c.if-buffer-needed.false _ c.write_waves.ensures

-- `report::report_activating` meets its contract: whether the needs are met in the staged table is what is asked. Assumes nothing.
use borrow.Author.Rules.{rules}
use mathlib.Core.Path.{◌≡◌, ap, ◌∙◌}
use lib.ListN.{length}
use Rattle.base.proofs.Counted.{unmapped}
use Rattle.clusters.specs.declared.table.Table.{Table}
use Rattle.clusters.specs.Table.{clusters_most, needs_met}
use Rattle.clusters.specs.View.{view_table}
use Rattle.report.specs.Reported.{activating_reported}
use Rattle.report.proofs.ReportLaws.{staged-within}
use Rattle.report.proofs.report_activating.Goals.{Start}
use Rattle.report.proofs.report_activating.Goals as goal

long : (c : Start) → length c.args.s.session.beginning.clusters ≡ clusters_most
long c = search (rules, unmapped)

pub needs_met-met-requires : goal.needs_met-met-requires
needs_met-met-requires c = search (staged-within, (long (goal.at.needs_met-met-requires c).Start))

pub returns : goal.returns
returns c =
    c.answer_activating.ensures
    ∙ ap (activating_reported c.args.s c.args.good)
    (c.needs_met-met.ensures ∙ ap (λ (t : Table). needs_met (view_table t)) c.staged.ensures)

-- `four_state::activate::ready_with_unmet_needs` meets its contract: what is asked is the staged table of the model. Assumes nothing.
use borrow.Author.Rules.{rules}
use mathlib.Core.Path.{◌≡◌, ◌∙◌}
use lib.ListN.{length}
use Rattle.base.proofs.Counted.{unmapped}
use Rattle.base.proofs.Ladder.{and-on}
use Rattle.clusters.specs.Table.{clusters_most}
use Rattle.state.specs.View.{view_phase}
use Rattle.report.proofs.ReportLaws.{staged-within}
use Rattle.four_state.specs.OldCalls.{is_ready}
use Rattle.four_state.proofs.OldWays.{told-ready, other-ready, needs-of-staged}
use Rattle.four_state.proofs.activate.ready_with_unmet_needs.Goals.{Start, Joined-matches, in-Ready, in_default}
use Rattle.four_state.proofs.activate.ready_with_unmet_needs.Goals as goal

long : (c : Start) → length c.args.session.beginning.clusters ≡ clusters_most
long c = search (rules, unmapped)

ready : (c : Joined-matches) → is_ready (view_phase c.args.phase) ≡ c.match-matches.matches
ready c = elim c.match-matches.branch [ in-Ready w ↦ search told-ready | in_default w ↦ search other-ready ]

pub needs_met-requires : goal.needs_met-requires
needs_met-requires c = search (staged-within, (long (goal.at.needs_met-requires c).Start))

pub returns-then-matches : goal.returns-then-matches
returns-then-matches c =
    and-on _ _ _ (ready (goal.at.returns-then-matches c).Joined-matches ∙ c.if-matches.true) (search (needs-of-staged, long (goal.at.returns-then-matches c).Start))

-- `report::report` meets its contract: refused by 1, or what the call of a sound state gives; its clauses follow from the exact one.
-- Assumes nothing.
use Rattle.report.specs.Reported.{report_called}
use Rattle.state.specs.Outcome.{outcome, SoundIfAccepted, Outcome, view_outcome}
use Rattle.state.specs.View.{view_state}
use Rattle.model.specs.Step.{step}
use Rattle.model.specs.Calls.{report}
use borrow.Author.Rules.{rules}
use mathlib.Core.Path.{◌≡◌}
use lib.ListN.{length}
use Rattle.base.proofs.Counted.{unmapped}
use Rattle.base.proofs.Ladder.{told-yes}
use Rattle.clusters.specs.Table.{clusters_most}
use Rattle.state.proofs.Ways.{ways, clauses}
use Rattle.report.proofs.ReportLaws.{view-reported}
use Rattle.report.proofs.report.Goals.{Start}
use Rattle.report.proofs.report.Goals as goal

long : (c : Start) → length c.args.s.session.beginning.clusters ≡ clusters_most
long c = search (rules, unmapped)

-- the three clauses follow from the exact one
three : (c : Start) (given : Outcome) → given ≡ report_called c.args.s c.args.store.now c.args.good
    → (view_outcome given ≡ step (view_state c.args.s) c.args.store.now (report c.args.good)) × ((given ≡ report_called c.args.s c.args.store.now c.args.good) × SoundIfAccepted given)
three c given exact = clauses _ _ _ _ _ exact (search (view-reported, long c))

pub returns-then-not-sound : goal.returns-then-not-sound
returns-then-not-sound c =
    let told = three (goal.at.returns-then-not-sound c).Start (outcome c.refuse.result c.args.store.now) (search ways) in
    record { meaning = told.0; exact = told.1.0; sound = told.1.1 }

pub report_on_sound-requires : goal.report_on_sound-requires
report_on_sound-requires c = search told-yes

pub returns : goal.returns
returns c =
    let told = three (goal.at.returns c).Start (outcome c.report_on_sound.result c.report_on_sound.new.store) (search ways) in
    record { meaning = told.0; exact = told.1.0; sound = told.1.1 }

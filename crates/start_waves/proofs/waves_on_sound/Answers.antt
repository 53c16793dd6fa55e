-- `start_waves::waves_on_sound` meets its contract: the report of the running table's waves. Assumes nothing.
use mathlib.Core.Path.{◌≡◌}
use lib.ListN.{length}
use borrow.Author.Rules.{rules}
use Rattle.base.proofs.Counted.{unmapped}
use Rattle.clusters.specs.Table.{clusters_most}
use Rattle.soundness.proofs.SoundSession.{session-fits}
use Rattle.start_waves.proofs.Reports.{running-fits, running-waves}
use Rattle.start_waves.proofs.waves_on_sound.Goals.{Start}
use Rattle.start_waves.proofs.waves_on_sound.Goals as goal

long : (c : Start) → length c.args.s.session.beginning.clusters ≡ clusters_most
long c = search (rules, unmapped)

pub running-table-requires : goal.running-table-requires
running-table-requires c = session-fits c.args.s c.args.store.now c.requires

pub report_waves-requires : goal.report_waves-requires
report_waves-requires c =
    running-fits c.args.s c.args.store.now c.requires (long (goal.at.report_waves-requires c).Start) _ c.running-table.ensures

pub returns : goal.returns
returns c =
    running-waves c.args.s c.args.store.now c.requires (long (goal.at.returns c).Start) _ c.running-table.ensures _ _ c.report_waves.ensures

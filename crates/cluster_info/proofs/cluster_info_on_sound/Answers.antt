-- `cluster_info::cluster_info_on_sound` meets its contract: the report of the running table. Assumes nothing.
use borrow.Author.Rules.{rules}
use mathlib.Core.Path.{◌≡◌}
use lib.ListN.{length}
use Rattle.base.proofs.Counted.{unmapped}
use Rattle.clusters.specs.Table.{clusters_most}
use Rattle.soundness.proofs.SoundSession.{session-fits}
use Rattle.cluster_info.proofs.RunningText.{within, running-report}
use Rattle.cluster_info.proofs.cluster_info_on_sound.Goals.{Start}
use Rattle.cluster_info.proofs.cluster_info_on_sound.Goals as goal

long : (c : Start) → length c.args.s.session.beginning.clusters ≡ clusters_most
long c = search (rules, unmapped)

pub running-requires : goal.running-requires
running-requires c = session-fits c.args.s c.args.store.now c.requires

pub report_table-requires : goal.report_table-requires
report_table-requires c =
    within c.args.s c.args.store.now c.requires (long (goal.at.report_table-requires c).Start) _ c.running.ensures

pub returns : goal.returns
returns c =
    running-report c.args.s c.args.store.now c.requires (long (goal.at.returns c).Start) _ c.running.ensures _ _ c.report_table.ensures

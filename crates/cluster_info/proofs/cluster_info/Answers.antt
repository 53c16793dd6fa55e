-- `cluster_info::cluster_info` meets its contract: 1 of an unsound state, and of a sound one the report behind it. That what it wrote loads
-- back follows from its equation. Assumes nothing.
use mathlib.Core.Path.{ap}
use mathlib.Core.Bool.{not}
use Rattle.base.proofs.Ladder.{told-yes}
use Rattle.model.specs.Reading.{cluster_info_report}
use Rattle.reading_reply.proofs.ReportLaws.{refuse-unsound-report, pass-sound-report}
use Rattle.cluster_info.proofs.WrittenLoadsBack.{promised}
use Rattle.cluster_info.proofs.cluster_info.Goals as goal

pub returns-then-not-sound : goal.returns-then-not-sound
unfolding cluster_info_report
returns-then-not-sound c =
    let told = promised _ _ _ _ _ (refuse-unsound-report _ _ _ _ _ c.sound.ensures (ap not c.if-not-sound.true)) in
    record { meaning = told.0; loads_back = told.1 }

pub cluster_info_on_sound-requires : goal.cluster_info_on_sound-requires
cluster_info_on_sound-requires c = search told-yes

pub returns : goal.returns
unfolding cluster_info_report
returns c =
    let told = promised _ _ _ _ _ (pass-sound-report _ _ _ _ _ c.sound.ensures _ (ap not c.if-not-sound.false) c.cluster_info_on_sound.ensures) in
    record { meaning = told.0; loads_back = told.1 }

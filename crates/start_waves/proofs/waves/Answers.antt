-- `start_waves::waves` meets its contract: 1 of an unsound state, and of a sound one the report behind it. Assumes nothing.
use mathlib.Core.Path.{ap}
use mathlib.Core.Bool.{not}
use Rattle.base.proofs.Ladder.{told-yes}
use Rattle.start_waves.proofs.Reports.{refuse-unsound-waves, pass-sound-waves}
use Rattle.start_waves.proofs.waves.Goals as goal

pub returns-then-not-sound : goal.returns-then-not-sound
returns-then-not-sound c = record { meaning = refuse-unsound-waves _ _ _ _ c.sound.ensures (ap not c.if-not-sound.true) }

pub waves_on_sound-requires : goal.waves_on_sound-requires
waves_on_sound-requires c = search told-yes

pub returns : goal.returns
returns c =
    record { meaning = pass-sound-waves _ _ _ _ c.sound.ensures _ (ap not c.if-not-sound.false) c.waves_on_sound.ensures }

-- `soundness::packages::package_sound` meets its contract: the same tests, one of them by a call. Assumes nothing.
use Rattle.model.specs.Sound.{package_sound}
use Rattle.soundness.proofs.packages.package_sound.Goals as goal

pub returns : goal.returns
unfolding package_sound
returns c = rw (← c.received_sound-received.ensures)

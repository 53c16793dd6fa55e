-- `soundness::kept::numbers_sound` meets its contract: the same tests. Assumes nothing.
use mathlib.Core.Path.{refl}
use Rattle.checksum.specs.Sum.{sums_within}
use Rattle.soundness.proofs.kept.numbers_sound.Goals as goal

pub returns : goal.returns
unfolding sums_within
returns c = refl

-- `soundness::packages::received_sound` meets its contract: the definition's choice. Assumes nothing.
use mathlib.Core.Path.{◌∙◌}
use Rattle.base.proofs.Ladder.{told-ladder}
use Rattle.model.specs.Sound.{received_sound}
use Rattle.state.proofs.Tests.{same-transferring}
use Rattle.soundness.proofs.packages.received_sound.Goals as goal

pub returns-then-eq : goal.returns-then-eq
unfolding received_sound
returns-then-eq c = let t = c.eq.ensures ∙ same-transferring c.args.p.state in search told-ladder

pub returns-else-eq : goal.returns-else-eq
unfolding received_sound
returns-else-eq c = let t = c.eq.ensures ∙ same-transferring c.args.p.state in search told-ladder

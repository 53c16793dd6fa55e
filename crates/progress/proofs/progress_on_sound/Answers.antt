-- `progress::progress_on_sound` meets its contract: in Processing the percentage, outside it 0. Assumes nothing.
use mathlib.Core.Path.{◌∙◌}
use Rattle.state.proofs.Tests.{same-phase}
use Rattle.progress.proofs.KeptProgress.{outside, inside}
use Rattle.progress.proofs.progress_on_sound.Goals as goal

pub returns-then-eq : goal.returns-then-eq
returns-then-eq c = search (inside, c.eq.ensures ∙ same-phase c.args.s.phase)

pub returns-else-eq : goal.returns-else-eq
returns-else-eq c = search (outside, c.eq.ensures ∙ same-phase c.args.s.phase)

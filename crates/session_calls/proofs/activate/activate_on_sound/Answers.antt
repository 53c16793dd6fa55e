-- `session_calls::activate::activate_on_sound` meets its contract: a call that moves the manager's state alone. Assumes nothing.
use mathlib.Core.Path.{refl}
use Rattle.model.specs.Calls.{activate}
use Rattle.model.specs.Step.{own_refusals}
use Rattle.session_calls.proofs.activate.activate_on_sound.Goals as goal

pub returns : goal.returns
unfolding own_refusals
returns c = c.move_to.ensures activate _ (record { numbered = refl; free = refl; own = refl })

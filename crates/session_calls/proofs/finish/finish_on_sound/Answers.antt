-- `session_calls::finish::finish_on_sound` meets its contract: a call that moves the manager's state alone, from where it came.
-- Assumes nothing.
use mathlib.Core.Path.{refl, ap}
use Rattle.model.specs.Calls.{finish}
use Rattle.model.specs.Step.{own_refusals}
use Rattle.state.specs.declared.phase.Phase.TheVariants.{CleaningUp}
use Rattle.session_calls.proofs.MoveLaws.{move-known}
use Rattle.session_calls.proofs.finish.finish_on_sound.Goals as goal

pub returns : goal.returns
unfolding own_refusals
returns c =
    move-known c.args.s c.args.store.now finish _ _ _ (c.move_to.ensures finish _ (record { numbered = refl; free = refl; own = refl }))
    (ap CleaningUp c.finish_origin.ensures)

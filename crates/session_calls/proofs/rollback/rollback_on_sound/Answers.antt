-- `session_calls::rollback::rollback_on_sound` meets its contract: a call that moves the manager's state alone, from where it came.
-- Assumes nothing.
use mathlib.Core.Path.{refl, ap}
use Rattle.model.specs.Calls.{rollback}
use Rattle.model.specs.Step.{own_refusals}
use Rattle.state.specs.declared.phase.Phase.TheVariants.{RollingBack}
use Rattle.session_calls.proofs.MoveLaws.{move-known}
use Rattle.session_calls.proofs.rollback.rollback_on_sound.Goals as goal

pub returns : goal.returns
unfolding own_refusals
returns c =
    move-known c.args.s c.args.store.now rollback _ _ _ (c.move_to.ensures rollback _ (record { numbered = refl; free = refl; own = refl }))
    (ap RollingBack c.rollback_origin.ensures)

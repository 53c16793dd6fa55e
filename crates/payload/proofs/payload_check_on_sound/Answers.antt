-- `payload::payload_check_on_sound` meets its contract: the number of the refusal, or 0. Assumes nothing.
use mathlib.Core.Path.{refl, ap, ◌∙◌}
use Rattle.base.specs.Refusals.{number_or_zero}
use Rattle.state.specs.View.{view_state}
use Rattle.areas.proofs.FoundPackage.{areas-fit}
use Rattle.payload.proofs.payload_check_on_sound.Goals as goal

pub payload_place-requires : goal.payload_place-requires
payload_place-requires c = areas-fit c.args.s c.args.store.now c.requires

pub returns-in-Ok : goal.returns-in-Ok
returns-in-Ok c = ap number_or_zero (rw c.in-Ok.is at (c.payload_place.ensures.refused (view_state c.args.s) refl))

pub returns-in-Err : goal.returns-in-Err
returns-in-Err c = c.number.ensures ∙ ap number_or_zero (rw c.in-Err.is at (c.payload_place.ensures.refused (view_state c.args.s) refl))

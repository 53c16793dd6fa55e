-- `report::report_on_sound` meets its contract: the ways out of a call. Assumes nothing.
use Rattle.base.specs.Refusals.{first_refusal}
use Rattle.model.specs.Step.{own_refusals}
use Rattle.state.proofs.Ways.{ways}
use Rattle.report.proofs.report_on_sound.Goals as goal

pub returns-then-not-allowed : goal.returns-then-not-allowed
returns-then-not-allowed c = search ways

pub returns : goal.returns
unfolding first_refusal own_refusals
returns c = search ways

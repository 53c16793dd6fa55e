-- `cancel_processing::cancel` meets its contract: refused by 1, or what the call of a sound state gives; its clauses follow from the exact
-- one. Assumes nothing.
use mathlib.Core.Path.{◌≡◌}
use Rattle.cancel_processing.specs.Cancel.{cancel_called}
use Rattle.state.specs.Outcome.{outcome, SoundIfAccepted, Outcome, view_outcome}
use Rattle.state.specs.View.{view_state}
use Rattle.model.specs.Step.{step}
use Rattle.model.specs.Calls.{cancel}
use Rattle.base.proofs.Ladder.{told-yes}
use Rattle.state.proofs.Ways.{ways, clauses}
use Rattle.cancel_processing.proofs.CancelLaws.{view-noted}
use Rattle.cancel_processing.proofs.cancel.Goals.{Start}
use Rattle.cancel_processing.proofs.cancel.Goals as goal

-- the three clauses follow from the exact one
three : (c : Start) (given : Outcome) → given ≡ cancel_called c.args.s c.args.store.now c.args.id
    → (view_outcome given ≡ step (view_state c.args.s) c.args.store.now (cancel c.args.id)) × ((given ≡ cancel_called c.args.s c.args.store.now c.args.id) × SoundIfAccepted given)
three c given exact = clauses _ _ _ _ _ exact (search view-noted)

pub returns-then-not-sound : goal.returns-then-not-sound
returns-then-not-sound c =
    let told = three (goal.at.returns-then-not-sound c).Start (outcome c.refuse.result c.args.store.now) (search ways) in
    record { meaning = told.0; exact = told.1.0; sound = told.1.1 }

pub cancel_on_sound-requires : goal.cancel_on_sound-requires
cancel_on_sound-requires c = search told-yes

pub returns : goal.returns
returns c =
    let told = three (goal.at.returns c).Start (outcome c.cancel_on_sound.result c.args.store.now) (search ways) in
    record { meaning = told.0; exact = told.1.0; sound = told.1.1 }

-- `session_calls::revert::revert` meets its contract: refused by 1, or what the call of a sound state gives; its clauses follow from the
-- exact one. Assumes nothing.
use mathlib.Core.Path.{◌≡◌}
use Rattle.session_calls.specs.Moved.{revert_called}
use Rattle.state.specs.Outcome.{outcome, SoundIfAccepted, Outcome, view_outcome}
use Rattle.state.specs.View.{view_state}
use Rattle.model.specs.Step.{step}
use Rattle.model.specs.Calls.{revert}
use Rattle.base.proofs.Ladder.{told-yes}
use Rattle.state.proofs.Ways.{ways, clauses}
use Rattle.session_calls.proofs.MoveLaws.{view-reverting}
use Rattle.session_calls.proofs.revert.revert.Goals.{Start}
use Rattle.session_calls.proofs.revert.revert.Goals as goal

-- the three clauses follow from the exact one
three : (c : Start) (given : Outcome) → given ≡ revert_called c.args.s c.args.store.now
    → (view_outcome given ≡ step (view_state c.args.s) c.args.store.now revert) × ((given ≡ revert_called c.args.s c.args.store.now) × SoundIfAccepted given)
three c given exact = clauses _ _ _ _ _ exact λ h. search view-reverting

pub returns-then-not-sound : goal.returns-then-not-sound
returns-then-not-sound c =
    let told = three (goal.at.returns-then-not-sound c).Start (outcome c.refuse.result c.args.store.now) (search ways) in
    record { meaning = told.0; exact = told.1.0; sound = told.1.1 }

pub revert_on_sound-requires : goal.revert_on_sound-requires
revert_on_sound-requires c = search told-yes

pub returns : goal.returns
returns c =
    let told = three (goal.at.returns c).Start (outcome c.revert_on_sound.result c.args.store.now) (search ways) in
    record { meaning = told.0; exact = told.1.0; sound = told.1.1 }

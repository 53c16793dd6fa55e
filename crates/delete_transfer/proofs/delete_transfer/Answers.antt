-- `delete_transfer::delete_transfer` meets its contract: refused by 1, or what the call of a sound state gives; its clauses follow from
-- the exact one. Assumes nothing.
use mathlib.Core.Path.{◌≡◌}
use Rattle.delete_transfer.specs.Delete.{delete_called}
use Rattle.state.specs.Outcome.{outcome, SoundIfAccepted, Outcome, view_outcome}
use Rattle.state.specs.View.{view_state}
use Rattle.model.specs.Step.{step}
use Rattle.model.specs.Calls.{delete_transfer}
use Rattle.base.proofs.Ladder.{told-yes}
use Rattle.state.proofs.Ways.{ways, clauses}
use Rattle.delete_transfer.proofs.DeleteLaws.{view-without}
use Rattle.delete_transfer.proofs.delete_transfer.Goals.{Start}
use Rattle.delete_transfer.proofs.delete_transfer.Goals as goal

-- the three clauses follow from the exact one
three : (c : Start) (given : Outcome) → given ≡ delete_called c.args.s c.args.store.now c.args.id
    → (view_outcome given ≡ step (view_state c.args.s) c.args.store.now (delete_transfer c.args.id)) × ((given ≡ delete_called c.args.s c.args.store.now c.args.id) × SoundIfAccepted given)
three c given exact = clauses _ _ _ _ _ exact (search view-without)

pub returns-then-not-sound : goal.returns-then-not-sound
returns-then-not-sound c =
    let told = three (goal.at.returns-then-not-sound c).Start (outcome c.refuse.result c.args.store.now) (search ways) in
    record { meaning = told.0; exact = told.1.0; sound = told.1.1 }

pub delete_transfer_on_sound-requires : goal.delete_transfer_on_sound-requires
delete_transfer_on_sound-requires c = search told-yes

pub returns : goal.returns
returns c =
    let told = three (goal.at.returns c).Start (outcome c.delete_transfer_on_sound.result c.delete_transfer_on_sound.new.store) (search ways) in
    record { meaning = told.0; exact = told.1.0; sound = told.1.1 }

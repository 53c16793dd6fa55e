-- `transfer_data::transfer_data` meets its contract: refused by 1, or what the call of a sound state gives; its clauses follow from the exact
-- one. Assumes nothing.
use Rattle.transfer_data.specs.Data.{data_called, data_step}
use Rattle.state.specs.Outcome.{outcome, SoundIfAccepted, Outcome, view_outcome}
use borrow.Author.Rules.{rules}
use mathlib.Core.Path.{◌≡◌}
use lib.ListN.{length}
use Rattle.base.proofs.Counted.{unmapped}
use Rattle.base.proofs.Ladder.{told-yes}
use Rattle.model.specs.Sound.{packages_most}
use Rattle.state.proofs.Ways.{ways, clauses}
use Rattle.transfer_data.proofs.DataLaws.{view-received}
use Rattle.transfer_data.proofs.transfer_data.Goals.{Start}
use Rattle.transfer_data.proofs.transfer_data.Goals as goal

long : (c : Start) → length c.args.s.transfers.packages ≡ packages_most
long c = search (rules, unmapped)

-- the three clauses follow from the exact one
three : (c : Start) (given : Outcome) → given ≡ data_called c.args.s c.args.store.now c.args.id c.args.counter c.args.block.now
    → (view_outcome given ≡ data_step c.args.s c.args.store.now c.args.id c.args.counter c.args.block.now) × ((given ≡ data_called c.args.s c.args.store.now c.args.id c.args.counter c.args.block.now) × SoundIfAccepted given)
three c given exact = clauses _ _ _ _ _ exact (search (view-received, long c))

pub returns-then-not-sound : goal.returns-then-not-sound
returns-then-not-sound c =
    let told = three (goal.at.returns-then-not-sound c).Start (outcome c.refuse.result c.args.store.now) (search ways) in
    record { meaning = told.0; exact = told.1.0; sound = told.1.1 }

pub transfer_data_on_sound-requires : goal.transfer_data_on_sound-requires
transfer_data_on_sound-requires c = search told-yes

pub returns : goal.returns
returns c =
    let told = three (goal.at.returns c).Start (outcome c.transfer_data_on_sound.result c.transfer_data_on_sound.new.store) (search ways) in
    record { meaning = told.0; exact = told.1.0; sound = told.1.1 }

-- `work_on_payload::work` meets its contract: refused by 1, or what the call of a sound state gives; its clauses follow from the exact one.
-- Assumes nothing.
use Rattle.work_on_payload.specs.Work.{work_called}
use Rattle.state.specs.Outcome.{outcome, SoundIfAccepted, Outcome, view_outcome}
use Rattle.model.specs.Step.{step}
use Rattle.model.specs.Calls.{work}
use borrow.Author.Rules.{rules}
use mathlib.Core.Path.{◌≡◌}
use lib.ListN.{length}
use Rattle.base.proofs.Counted.{unmapped}
use Rattle.base.proofs.Ladder.{told-yes}
use Rattle.model.specs.Sound.{packages_most}
use Rattle.state.specs.View.{entries_most, view_state}
use Rattle.state.proofs.Ways.{ways, clauses}
use Rattle.work_on_payload.proofs.ViewWorked.{view-worked}
use Rattle.work_on_payload.proofs.work.Goals.{Start}
use Rattle.work_on_payload.proofs.work.Goals as goal

long : (c : Start) → length c.args.s.transfers.packages ≡ packages_most
long c = search (rules, unmapped)

long-list : (c : Start) → length c.args.s.session.entries ≡ entries_most
long-list c = search (rules, unmapped)

-- the three clauses follow from the exact one
three : (c : Start) (given : Outcome) → given ≡ work_called c.args.s c.args.store.now c.args.n
    → (view_outcome given ≡ step (view_state c.args.s) c.args.store.now (work c.args.n)) × ((given ≡ work_called c.args.s c.args.store.now c.args.n) × SoundIfAccepted given)
three c given exact = clauses _ _ _ _ _ exact (search (view-worked, long c, long-list c))

pub returns-then-not-sound : goal.returns-then-not-sound
returns-then-not-sound c =
    let told = three (goal.at.returns-then-not-sound c).Start (outcome c.refuse.result c.args.store.now) (search ways) in
    record { meaning = told.0; exact = told.1.0; sound = told.1.1 }

pub work_on_sound-requires : goal.work_on_sound-requires
work_on_sound-requires c = search told-yes

pub returns : goal.returns
returns c =
    let told = three (goal.at.returns c).Start (outcome c.work_on_sound.result c.args.store.now) (search ways) in
    record { meaning = told.0; exact = told.1.0; sound = told.1.1 }

-- `manager::call_after_check` meets its contract: refused by 1, or what the call of a sound state gives; its clauses follow from the exact one.
-- Assumes nothing.
use borrow.Author.Rules.{rules}
use mathlib.Core.Path.{◌≡◌}
use Rattle.base.proofs.Counted.{unmapped}
use Rattle.base.proofs.Ladder.{told-yes}
use Rattle.request.specs.Call.{call_of}
use Rattle.state.specs.Outcome.{Outcome, outcome, view_outcome, SoundIfAccepted}
use Rattle.state.proofs.Ways.{ways, clauses}
use Rattle.manager.specs.Accepts.{Shaped, exact_step, request_step}
use Rattle.manager.proofs.CallLaws.{view-accepts}
use Rattle.manager.proofs.call_after_check.Goals.{Start}
use Rattle.manager.proofs.call_after_check.Goals as goal

shaped : (c : Start) → Shaped c.args.s
shaped c = record { packages = search (rules, unmapped); entries = search (rules, unmapped); clusters = search (rules, unmapped) }

-- the three clauses follow from the exact one
three : (c : Start) (given : Outcome) → given ≡ exact_step c.args.s c.args.store.now (call_of c.args.request c.args.block.now)
    → (view_outcome given ≡ request_step c.args.s c.args.store.now c.args.request c.args.block.now)
    × ((given ≡ exact_step c.args.s c.args.store.now (call_of c.args.request c.args.block.now)) × SoundIfAccepted given)
three c given exact = clauses _ _ _ _ _ exact (search (view-accepts, shaped c))

pub returns-then-not-is_sound : goal.returns-then-not-is_sound
returns-then-not-is_sound c =
    let told = three (goal.at.returns-then-not-is_sound c).Start (outcome c.refuse.result c.args.store.now) (search ways) in
    record { meaning = told.0; exact = told.1.0; sound = told.1.1 }

pub call_on_sound-requires : goal.call_on_sound-requires
call_on_sound-requires c = search told-yes

pub returns : goal.returns
returns c =
    let told = three (goal.at.returns c).Start (outcome c.call_on_sound.result c.call_on_sound.new.store) (search ways) in
    record { meaning = told.0; exact = told.1.0; sound = told.1.1 }

-- Where the calls that change the manager's state alone do not go: neither to Idle nor to Processing. Assumes nothing.
use mathlib.Core.Path.{◌≡◌, refl}
use mathlib.Core.Bool.{Bool, false}
use Rattle.model.specs.State.{verifying_rolls_back, activated_rolls_back, Phase, is_idle, is_processing}
use Rattle.model.specs.Calls.{Call, Answer}
use Rattle.model.specs.Accepted.{Moves, reverts, activates, rolls_back_verifying, rolls_back_activated, finishes_activated, finishes_rolled_back, activation_fails, needs_missing, activation_succeeds, verification_succeeds, verification_fails, rollback_succeeds, rollback_fails, revert_fails, cleaning_activated_fails, cleaning_rolled_back_fails}

pub moves-elsewhere : {met : Bool} {call : Call} {answer : Answer} {phase phase' : Phase} → Moves met call answer phase phase'
    → (is_idle phase' ≡ false) × (is_processing phase' ≡ false)
moves-elsewhere reverts = (refl, refl)
moves-elsewhere activates = (refl, refl)
moves-elsewhere rolls_back_verifying = (refl, refl)
moves-elsewhere rolls_back_activated = (refl, refl)
moves-elsewhere finishes_activated = (refl, refl)
moves-elsewhere finishes_rolled_back = (refl, refl)
moves-elsewhere (activation_fails m) = (refl, refl)
moves-elsewhere (needs_missing good m) = (refl, refl)
moves-elsewhere (activation_succeeds m) = (refl, refl)
moves-elsewhere verification_succeeds = (refl, refl)
moves-elsewhere verification_fails = (refl, refl)
moves-elsewhere (rollback_succeeds origin) = (refl, refl)
moves-elsewhere (rollback_fails verifying_rolls_back) = (refl, refl)
moves-elsewhere (rollback_fails activated_rolls_back) = (refl, refl)
moves-elsewhere revert_fails = (refl, refl)
moves-elsewhere cleaning_activated_fails = (refl, refl)
moves-elsewhere cleaning_rolled_back_fails = (refl, refl)

-- `state::permissions::allowed` meets its contract: the code's nine rows are the model's, by computation. Assumes nothing.
use borrow.Author.Rules.{rules}
use mathlib.Core.Path.{ap}
use mathlib.Core.Bool.{false}
use mathlib.Core.List.{[]}
use Prim.Native.Nat.{ℕ, ◌<◌}
use lib.ListN.{get_or}
use Rattle.model.specs.Permissions.{permissions}
use Rattle.state.specs.View.{view_phase}
use Rattle.state.specs.Permissions.{allowed_number}
use Rattle.state.proofs.Permitted.{one-of-nine, no-such-call}
use Rattle.state.proofs.permissions.allowed.Goals.{After-phase_number-state}
use Rattle.state.proofs.permissions.allowed.Goals as goal

below : (c : After-phase_number-state) → c.phase_number-state.result < 9
below c = one-of-nine (view_phase c.args.phase) _ c.phase_number-state.ensures

pub returns-then-call-ge-CALLS : goal.returns-then-call-ge-CALLS
returns-then-call-ge-CALLS c = search no-such-call

pub offset_bounds-permissions-state : goal.offset_bounds-permissions-state
offset_bounds-permissions-state c = let h = below (goal.at.offset_bounds-permissions-state c).After-phase_number-state in search rules

pub returns : goal.returns
unfolding allowed_number
returns c =
    ap (λ (n : ℕ). get_or (get_or permissions n []) c.args.call false) c.phase_number-state.ensures

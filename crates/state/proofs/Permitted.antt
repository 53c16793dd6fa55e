-- The nine rows of permissions: a number of a manager's state is one of the nine, and a number that no call has is allowed in none.
-- The model's permission of a call is that of its number. Assumes nothing.
use Prim.Native.Nat.{ℕ, ◌≤◌, ◌<◌}
use mathlib.Core.Path.{◌≡◌, refl, sym}
use mathlib.Core.Bool.{false}
use mathlib.Core.List.{[]}
use native.Mathlib.Omega.{arith}
use lib.ListN.{length, get_or, get_or-eq_default}
use Rattle.model.specs.State.{Phase, idle, ready, processing, activating, verifying, activated, rolling_back, rolled_back, cleaning_up, phase_number}
use Rattle.model.specs.Calls.{Call, call_number}
use Rattle.model.specs.Permissions.{permissions, allowed}
use Rattle.state.specs.Permissions.{allowed_number}

pub one-of-nine : (phase : Phase) (n : ℕ) → n ≡ phase_number phase → n < 9
one-of-nine idle n e = omega arith
one-of-nine ready n e = omega arith
one-of-nine processing n e = omega arith
one-of-nine activating n e = omega arith
one-of-nine verifying n e = omega arith
one-of-nine activated n e = omega arith
one-of-nine (rolling_back origin) n e = omega arith
one-of-nine rolled_back n e = omega arith
one-of-nine (cleaning_up origin) n e = omega arith

row-of-twelve : (phase : Phase) → length (get_or permissions (phase_number phase) []) ≡ 12
row-of-twelve idle = refl
row-of-twelve ready = refl
row-of-twelve processing = refl
row-of-twelve activating = refl
row-of-twelve verifying = refl
row-of-twelve activated = refl
row-of-twelve (rolling_back origin) = refl
row-of-twelve rolled_back = refl
row-of-twelve (cleaning_up origin) = refl

pub no-such-call : (phase : Phase) (call : ℕ) → 12 ≤ call → false ≡ allowed_number phase call
unfolding allowed_number
no-such-call phase call h =
    sym (get_or-eq_default (get_or permissions (phase_number phase) []) false {n = call} (omega (arith, row-of-twelve phase)))

pub by_number : (phase : Phase) (call : Call) → allowed phase call ≡ allowed_number phase (call_number call)
unfolding allowed allowed_number
by_number phase call = refl

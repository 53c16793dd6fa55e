-- "Who may call what is a constant table of nine rows", by the numbers of state and call.
use Rattle.std.specs.Prelude.{ℕ, Bool, false, [], get_or}
use Rattle.model.specs.State.{Phase, phase_number}
use Rattle.model.specs.Permissions.{permissions}

-- the manager's state allows the call with a number; `allowed` of the model is this at the call's number
unfoldable pub allowed_number : Phase → ℕ → Bool
allowed_number phase number = get_or (get_or permissions (phase_number phase) []) number false

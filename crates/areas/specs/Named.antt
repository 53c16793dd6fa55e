-- The package that a transfer call names, before what the call checks of the package itself.
use Rattle.std.specs.Prelude.{ℕ, not, List, [], ◌∷◌}
use Rattle.base.specs.Refusals.{Refusal, refuse◌when◌}
use Rattle.model.specs.State.{Package, Phase}
use Rattle.model.specs.Step.{unknown}
use Rattle.state.specs.Permissions.{allowed_number}

-- "3. OperationNotPermitted: the manager's state doesn't allow the call."; "4. InvalidTransferId: no package has the id"
abbrev pub named_refusals : Phase → List Package → ℕ → ℕ → List Refusal
named_refusals phase ps call id = (refuse 3 when not (allowed_number phase call)) ∷ (refuse 4 when unknown id ps) ∷ []

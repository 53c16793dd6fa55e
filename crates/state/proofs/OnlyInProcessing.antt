-- "Work and Cancel are allowed in Processing": a call whose column of the nine rows allows it in Processing alone. Assumes nothing.
use Prim.Native.Nat.{ℕ}
use mathlib.Core.Path.{◌≡◌, refl, sym, ap, ◌∙◌}
use mathlib.Core.Bool.{Bool, true, false}
use mathlib.Core.List.{List, [], ◌∷◌, map}
use lib.ListN.{get_or, get_or-map}
use Rattle.model.specs.State.{Phase, idle, ready, processing, activating, verifying, activated, rolling_back, rolled_back, cleaning_up, phase_number, is_processing}
use Rattle.model.specs.Permissions.{permissions}
use Rattle.state.specs.Permissions.{allowed_number}

-- the answers of the nine rows to the call with a number
abbrev pub column : ℕ → List Bool
column number = map (λ (row : List Bool). get_or row number false) permissions

-- Processing is the third row
abbrev pub processing_alone : List Bool
processing_alone = false ∷ false ∷ true ∷ false ∷ false ∷ false ∷ false ∷ false ∷ false ∷ []

alone : (phase : Phase) → get_or processing_alone (phase_number phase) false ≡ is_processing phase
alone idle = refl
alone ready = refl
alone processing = refl
alone activating = refl
alone verifying = refl
alone activated = refl
alone (rolling_back origin) = refl
alone rolled_back = refl
alone (cleaning_up origin) = refl

pub only-in-processing : (number : ℕ) → column number ≡ processing_alone → (phase : Phase) → allowed_number phase number ≡ is_processing phase
unfolding allowed_number
only-in-processing number e phase =
    sym (get_or-map (λ (row : List Bool). get_or row number false) permissions (phase_number phase) [])
    ∙ ap (λ (answers : List Bool). get_or answers (phase_number phase) false) e
    ∙ alone phase

-- The manager's states with their numbers and the names that `state` answers, computed. Assumes nothing.
use Prim.Native.Nat.{ℕ}
use mathlib.Core.Path.{refl}
use mathlib.Core.List.{List, [], ◌∷◌}
use Rattle.base.specs.Quoted.{bytes}
use Rattle.base.proofs.Tables.{◌gives◌, AllHold}
use Rattle.model.specs.State.{Phase, phase_number, idle, ready, processing, activating, verifying, activated, rolling_back, rolled_back, cleaning_up}
use Rattle.model.specs.State.{verifying_rolls_back, activated_rolls_back, ready_cleans_up, activated_cleans_up, rolled_back_cleans_up}
use Rattle.script_answers.specs.ManagerState.{state_name}

-- a state's number and name
abbrev numbered : Phase → ℕ × List ℕ
numbered phase = (phase_number phase, state_name phase)

-- "States: Idle 0, Ready 1, Processing 2, Activating 3, Verifying 4, Activated 5, RollingBack 6, RolledBack 7, CleaningUp 8."
states-computed : AllHold numbered
    (idle gives (0, bytes "Idle")
    ∷ ready gives (1, bytes "Ready")
    ∷ processing gives (2, bytes "Processing")
    ∷ activating gives (3, bytes "Activating")
    ∷ verifying gives (4, bytes "Verifying")
    ∷ activated gives (5, bytes "Activated")
    ∷ rolling_back verifying_rolls_back gives (6, bytes "RollingBack")
    ∷ rolling_back activated_rolls_back gives (6, bytes "RollingBack")
    ∷ rolled_back gives (7, bytes "RolledBack")
    ∷ cleaning_up ready_cleans_up gives (8, bytes "CleaningUp")
    ∷ cleaning_up activated_cleans_up gives (8, bytes "CleaningUp")
    ∷ cleaning_up rolled_back_cleans_up gives (8, bytes "CleaningUp")
    ∷ [])
states-computed = refl

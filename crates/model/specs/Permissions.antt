-- "Who may call what is a constant table of nine rows".
use Rattle.std.specs.Prelude.{Bool, true, false, List, [], ◌∷◌, get_or}
use Rattle.model.specs.State.{Phase, phase_number}
use Rattle.model.specs.Calls.{Call, call_number}

abbrev yes : Bool
yes = true

abbrev no : Bool
no = false

-- "Work and Cancel are allowed in Processing, Report in Activating, Verifying, RollingBack and CleaningUp, transfer calls
-- always, the rest as above." A row for each manager state; in it TransferStart, TransferData, TransferExit, DeleteTransfer,
-- Process, Work, Cancel, Revert, Activate, Rollback, Finish, Report
abbrev pub permissions : List (List Bool)
permissions =
    -- Idle
    (yes ∷ yes ∷ yes ∷ yes ∷ yes ∷ no ∷ no ∷ no ∷ no ∷ no ∷ no ∷ no ∷ [])
    -- Ready
    ∷ (yes ∷ yes ∷ yes ∷ yes ∷ yes ∷ no ∷ no ∷ yes ∷ yes ∷ no ∷ no ∷ no ∷ [])
    -- Processing
    ∷ (yes ∷ yes ∷ yes ∷ yes ∷ no ∷ yes ∷ yes ∷ no ∷ no ∷ no ∷ no ∷ no ∷ [])
    -- Activating
    ∷ (yes ∷ yes ∷ yes ∷ yes ∷ no ∷ no ∷ no ∷ no ∷ no ∷ no ∷ no ∷ yes ∷ [])
    -- Verifying
    ∷ (yes ∷ yes ∷ yes ∷ yes ∷ no ∷ no ∷ no ∷ no ∷ no ∷ yes ∷ no ∷ yes ∷ [])
    -- Activated
    ∷ (yes ∷ yes ∷ yes ∷ yes ∷ no ∷ no ∷ no ∷ no ∷ no ∷ yes ∷ yes ∷ no ∷ [])
    -- RollingBack
    ∷ (yes ∷ yes ∷ yes ∷ yes ∷ no ∷ no ∷ no ∷ no ∷ no ∷ no ∷ no ∷ yes ∷ [])
    -- RolledBack
    ∷ (yes ∷ yes ∷ yes ∷ yes ∷ no ∷ no ∷ no ∷ no ∷ no ∷ no ∷ yes ∷ no ∷ [])
    -- CleaningUp
    ∷ (yes ∷ yes ∷ yes ∷ yes ∷ no ∷ no ∷ no ∷ no ∷ no ∷ no ∷ no ∷ yes ∷ [])
    ∷ []

-- the manager's state allows the call
unfoldable pub allowed : Phase → Call → Bool
allowed phase call = get_or (get_or permissions (phase_number phase) []) (call_number call) false

-- What each of the twelve calls does when it is accepted: its answer, and the whole state and store that it leaves, from each origin.
-- Assumes nothing.
use Prim.Native.Nat.{ℕ}
use mathlib.Core.Path.{◌≡◌, refl}
use mathlib.Core.Bool.{Bool, true, false}
use mathlib.Core.List.{List, [], ◌∷◌, ◌++◌, map}
use mathlib.Core.Option.{Option, none, some}
use lib.ListN.{length, replicate}
use Rattle.base.specs.Quoted.{bytes}
use Rattle.text.specs.Version.{version}
use Rattle.clusters.specs.Cluster.{cluster}
use Rattle.clusters.specs.Table.{Table}
use Rattle.actions.specs.Action.{Action, install, update, remove}
use Rattle.model.specs.State.{PackageState, transferring, transferred, being_processed, Package, verifying_rolls_back, activated_rolls_back, ready_cleans_up, activated_cleans_up, rolled_back_cleans_up, Phase, idle, ready, processing, activating, verifying, activated, rolling_back, rolled_back, cleaning_up, Entry, Work, Store, state}
use Rattle.model.specs.State as states
use Rattle.model.specs.Calls.{transfer_start, transfer_data, transfer_exit, delete_transfer, process, work, cancel, revert, activate, rollback, finish, report, given_id, done, working, processed, cancelled, inconsistent, pre_activation_failed, missing_dependencies, verification_failed, not_able_to_rollback, not_able_to_revert, cleaning_failed}
use Rattle.model.specs.Areas.{area_start, area_of}
use Rattle.model.specs.Tables.{running_in}
use Rattle.model.specs.Run.{Run}
use Rattle.model.proofs.examples.Open.{computing}
use Rattle.model.proofs.examples.Transcript.{package_text, package_of, transfers, session, entry, kept, Start, start, ◌gives◌, Case, from◌calls◌, ◌ends◌, HoldLooking}
use Rattle.model.proofs.examples.Samples.{cluster20, updated20, cluster30, dependent30, update_text, ready_with, package1, package2, package3, package4, bytes_of_four, listed_two, staged_table, session_with, session_in}

-- the cases of this file look at the whole state and store
abbrev left : Run → Start
left r = start r.state r.store

-- ---- the calls between Ready and Idle

-- the session where the second package brings too low a version, so that a need is not met
abbrev unmet_in : Phase → Start
unmet_in =
    session_with
    (package1 ∷ package2 ∷ package3 ∷ package4 ∷ [])
    5
    (entry 3 (install dependent30) ∷ entry 1 (update (cluster 20 (version 1 0 4 9) [])) ∷ [])
    bytes_of_four

-- Idle, both Processed packages deleted: the others' areas moved down, 0 behind them. The next session begins with a table
abbrev cleaned : Table → Start
cleaned table =
    start (state idle (transfers (package2 ∷ package4 ∷ []) 5) (session table []) none)
    (bytes "c" ++ replicate 3 0 ++ bytes "efg" ++ replicate 5 0)

abbrev moves : List (Case Start)
moves =
    -- "Revert: Ready to CleaningUp."; "Activate: Ready to Activating."
    from session_in ready calls (revert gives done ∷ []) ends session_in (cleaning_up ready_cleans_up)
    ∷ from session_in ready calls (activate gives done ∷ []) ends session_in activating
    ∷ from unmet_in ready calls (activate gives done ∷ []) ends unmet_in activating
    -- "Rollback: Verifying or Activated to RollingBack."
    ∷ from session_in verifying calls (rollback gives done ∷ []) ends session_in (rolling_back verifying_rolls_back)
    ∷ from session_in activated calls (rollback gives done ∷ []) ends session_in (rolling_back activated_rolls_back)
    -- "Finish: Activated or RolledBack to CleaningUp."
    ∷ from session_in activated calls (finish gives done ∷ []) ends session_in (cleaning_up activated_cleans_up)
    ∷ from session_in rolled_back calls (finish gives done ∷ []) ends session_in (cleaning_up rolled_back_cleans_up)
    -- "Activating: bad gives Ready, PreActivationFailed. Good gives Ready, MissingDependencies, if some need of some cluster isn't
    -- met in the staged table; else Verifying."; A.6: "From now on the two together give MissingDependencies, still with Ready."
    ∷ from session_in activating calls (report true gives done ∷ []) ends session_in verifying
    ∷ from unmet_in activating calls (report true gives missing_dependencies ∷ []) ends unmet_in ready
    ∷ from session_in activating calls (report false gives pre_activation_failed ∷ []) ends session_in ready
    ∷ from unmet_in activating calls (report false gives missing_dependencies ∷ []) ends unmet_in ready
    -- "Verifying: good gives Activated, bad stays, VerificationFailed."
    ∷ from session_in verifying calls (report true gives done ∷ []) ends session_in activated
    ∷ from session_in verifying calls (report false gives verification_failed ∷ []) ends session_in verifying
    -- "RollingBack: good gives RolledBack; bad the state it came from, NotAbleToRollback."
    ∷ from session_in (rolling_back verifying_rolls_back) calls (report true gives done ∷ []) ends session_in rolled_back
    ∷ from session_in (rolling_back activated_rolls_back) calls (report true gives done ∷ []) ends session_in rolled_back
    ∷ from session_in (rolling_back verifying_rolls_back) calls (report false gives not_able_to_rollback ∷ []) ends session_in verifying
    ∷ from session_in (rolling_back activated_rolls_back) calls (report false gives not_able_to_rollback ∷ []) ends session_in activated
    -- "CleaningUp: good gives Idle and deletes all Processed packages; bad after Revert gives Ready, NotAbleToRevert, and after Finish
    -- stays, CleaningFailed."
    ∷ from session_in (cleaning_up ready_cleans_up) calls (report false gives not_able_to_revert ∷ []) ends session_in ready
    ∷ from session_in (cleaning_up activated_cleans_up) calls (report false gives cleaning_failed ∷ []) ends session_in (cleaning_up activated_cleans_up)
    ∷ from session_in (cleaning_up rolled_back_cleans_up) calls (report false gives cleaning_failed ∷ []) ends session_in (cleaning_up rolled_back_cleans_up)
    ∷ from session_in (cleaning_up ready_cleans_up) calls (report true gives done ∷ []) ends cleaned (cluster20 ∷ [])
    ∷ from session_in (cleaning_up activated_cleans_up) calls (report true gives done ∷ []) ends cleaned staged_table
    ∷ from session_in (cleaning_up rolled_back_cleans_up) calls (report true gives done ∷ []) ends cleaned (cluster20 ∷ [])
    ∷ []

-- ---- the transfer calls

-- that session in Verifying, with other packages, next id and store
abbrev verifying_with : List Package → ℕ → Store → Start
verifying_with packages next store = session_with packages next listed_two store verifying

-- with the Transferring package after other blocks
abbrev after_blocks : Package → List ℕ → Start
after_blocks p area = verifying_with (package1 ∷ p ∷ package3 ∷ package4 ∷ []) 5 (bytes "ab" ++ area ++ bytes "defg" ++ replicate 2 0)

-- the sum of a remove is any
abbrev sum_text : List ℕ
sum_text = package_text "remove,20,,0,7,," ""

-- packages of these texts, in these states
abbrev two_texts : Phase → PackageState → PackageState → Option Work → Start
two_texts phase first second w =
    start
    (state
    phase
    (transfers
    (package_of 1 (length sum_text) (length sum_text) 1 first ∷ package_of 2 (length update_text) (length update_text) 2 second ∷ [])
    3)
    (session (cluster20 ∷ []) [])
    w)
    (sum_text ++ update_text)

abbrev transfer_calls : List (Case Start)
transfer_calls =
    -- "TransferStart(size) gives the next id, one above the last given.", behind the others
    from session_in verifying calls (transfer_start 2 gives given_id 5 ∷ [])
    ends verifying_with (package1 ∷ package2 ∷ package3 ∷ package4 ∷ package_of 5 2 0 0 transferring ∷ []) 6 bytes_of_four
    -- "The block is written directly behind the bytes received so far."
    ∷ from session_in verifying calls (transfer_data 2 2 (bytes "x") gives done ∷ [])
    ends after_blocks (package_of 2 4 2 2 transferring) (bytes "cx" ++ replicate 2 0)
    ∷ from session_in verifying calls (transfer_data 2 2 (bytes "xy") gives done ∷ transfer_data 2 3 (bytes "z") gives done ∷ [])
    ends after_blocks (package_of 2 4 4 3 transferring) (bytes "cxyz")
    -- "TransferExit(id) checks the package: Transferred."
    ∷ from two_texts idle transferring transferring none calls (transfer_exit 2 gives done ∷ [])
    ends two_texts idle transferring transferred none
    ∷ from two_texts idle transferring transferring none calls (transfer_exit 1 gives done ∷ [])
    ends two_texts idle transferred transferring none
    -- "Deleting moves later areas down whole and fills the bytes between the new and the old end of the last area with 0": of a
    -- Transferring package, of a Transferred one
    ∷ from session_in verifying calls (delete_transfer 2 gives done ∷ [])
    ends verifying_with (package1 ∷ package3 ∷ package4 ∷ []) 5
    (bytes "abdefg" ++ replicate 6 0)
    ∷ from session_in verifying calls (delete_transfer 4 gives done ∷ [])
    ends verifying_with (package1 ∷ package2 ∷ package3 ∷ []) 5
    (bytes "abc" ++ replicate 3 0 ++ bytes "d" ++ replicate 5 0)
    ∷ []

-- ---- Process, Work and Cancel

-- a package of three bytes beside the one that is processed or was, whose payload `abcde` begins at 2; and perhaps a third, Processed
abbrev beside : List Package → List Entry → Phase → PackageState → Option Work → Start
beside third entries phase s w =
    start
    (state phase (transfers (package_of 1 3 3 1 transferred ∷ package_of 2 7 7 1 s ∷ third) 4) (session (cluster20 ∷ []) entries) w)
    (bytes "xyz" ++ bytes "##abcde" ++ replicate (length third) 0)

-- the first package of its session; the second
abbrev first : Phase → PackageState → List Entry → Option Work → Start
first phase s entries w = beside [] entries phase s w

abbrev second : Phase → PackageState → List Entry → Option Work → Start
second phase s entries w = beside (package_of 3 1 1 1 states.processed ∷ []) (entry 3 (remove 20) ∷ entries) phase s w

abbrev action : Action
action = install cluster30

-- Processing with a sum: c0 and c1, bytes done, whether a cancel is noted
abbrev processing_with : ℕ → ℕ → ℕ → ℕ → Bool → Start
processing_with sum c0 c1 bytes_done noted = first processing being_processed [] (some (kept action 2 5 sum c0 c1 bytes_done noted))

abbrev work_at : ℕ → ℕ → ℕ → Start
work_at c0 c1 bytes_done = processing_with 51440 c0 c1 bytes_done false

-- the same as the second package of its session
abbrev second_at : ℕ → Bool → Start
second_at sum noted = second processing being_processed [] (some (kept action 2 5 sum 0 0 0 noted))

-- of a package without payload, with a sum
abbrev without_payload : ℕ → Start
without_payload sum = first processing being_processed [] (some (kept action 7 0 sum 0 0 0 false))

-- its endings as the first package: Ready with the action listed; Idle, the package Transferred again
abbrev first_done : Start
first_done = first ready states.processed (entry 2 action ∷ []) none

abbrev first_left : Start
first_left = first idle transferred [] none

-- as the second: Ready with the action behind the other; Ready as before it
abbrev second_done : Start
second_done = second ready states.processed (entry 2 action ∷ []) none

abbrev second_left : Start
second_left = second ready transferred [] none

abbrev process_calls : List (Case Start)
process_calls =
    -- "Process(id): Idle or Ready to Processing."; "The state keeps the action, the payload's start within its area, count and sum, with
    -- the running sums and the bytes done at 0"
    from two_texts idle transferred transferred none calls (process 2 gives done ∷ [])
    ends two_texts processing transferred being_processed (some (kept (update updated20) 76 3 19495 0 0 0 false))
    ∷ from two_texts idle transferred transferred none calls (process 1 gives done ∷ [])
    ends two_texts processing being_processed transferred (some (kept (remove 20) 65 0 7 0 0 0 false))
    ∷ from ready_with (cluster20 ∷ []) (action ∷ []) (update_text ∷ []) calls (process 2 gives done ∷ [])
    ends start
    (state
    processing
    (transfers (package_of 1 1 1 1 states.processed ∷ package_of 2 79 79 1 being_processed ∷ []) 3)
    (session (cluster20 ∷ []) (entry 1 action ∷ []))
    (some (kept (update updated20) 76 3 19495 0 0 0 false)))
    (0 ∷ update_text)
    ∷ []

abbrev work_calls : List (Case Start)
work_calls =
    -- "takes the next n payload bytes, or what is left, into the sum"; "with payload left, answer Working"
    from work_at 0 0 0 calls (work 0 gives working ∷ []) ends work_at 0 0 0
    ∷ from work_at 0 0 0 calls (work 1 gives working ∷ []) ends work_at 97 97 1
    ∷ from work_at 0 0 0 calls (work 4 gives working ∷ []) ends work_at 139 215 4
    ∷ from work_at 97 97 1 calls (work 1 gives working ∷ work 2 gives working ∷ []) ends work_at 139 215 4
    -- "With none left, .. Processed, and the action joins the session's list": the first package of a session, the second
    ∷ from work_at 0 0 0 calls (work 5 gives processed ∷ []) ends first_done
    ∷ from work_at 0 0 0 calls (work 6 gives processed ∷ []) ends first_done
    ∷ from work_at 97 97 1 calls (work 4294967295 gives processed ∷ []) ends first_done
    ∷ from work_at 240 200 5 calls (work 0 gives processed ∷ []) ends first_done
    ∷ from second_at 51440 false calls (work 4 gives working ∷ work 1 gives processed ∷ []) ends second_done
    -- "Inconsistent when the sum differs"
    ∷ from processing_with 51439 0 0 0 false calls (work 5 gives inconsistent ∷ []) ends first_left
    ∷ from processing_with 51441 0 0 0 false calls (work 5 gives inconsistent ∷ []) ends first_left
    ∷ from second_at 51439 false calls (work 5 gives inconsistent ∷ []) ends second_left
    -- "If a cancel is noted, nothing is taken: answer Cancelled.": with payload left, with none left, and where the sum differs
    ∷ from processing_with 51440 0 0 0 true calls (work 0 gives cancelled ∷ []) ends first_left
    ∷ from processing_with 51440 0 0 0 true calls (work 5 gives cancelled ∷ []) ends first_left
    ∷ from processing_with 51439 240 200 5 true calls (work 0 gives cancelled ∷ []) ends first_left
    ∷ from second_at 51440 true calls (work 5 gives cancelled ∷ []) ends second_left
    -- "Cancel(id) notes the cancel until Processing ends; again is accepted."
    ∷ from work_at 97 97 1 calls (cancel 2 gives done ∷ []) ends processing_with 51440 97 97 1 true
    ∷ from work_at 97 97 1 calls (cancel 2 gives done ∷ cancel 2 gives done ∷ []) ends processing_with 51440 97 97 1 true
    -- payload 0: any Work ends
    ∷ from without_payload 0 calls (work 0 gives processed ∷ []) ends first_done
    ∷ from without_payload 1 calls (work 1 gives inconsistent ∷ []) ends first_left
    -- the payload's start is within its area: an earlier area is deleted meanwhile
    ∷ from work_at 0 0 0 calls (work 2 gives working ∷ delete_transfer 1 gives done ∷ work 3 gives processed ∷ [])
    ends start
    (state ready (transfers (package_of 2 7 7 1 states.processed ∷ []) 4) (session (cluster20 ∷ []) (entry 2 action ∷ [])) none)
    (bytes "##abcde" ++ replicate 3 0)
    ∷ []

pub answers : HoldLooking left (moves ++ transfer_calls ++ process_calls ++ work_calls)
unfolding computing
answers = refl

-- ---- the running table

-- "The running table is the staged one in Verifying, Activated, RollingBack and CleaningUp after Finish from Activated"; "In all other
-- states it is the beginning table."
abbrev running_tables : List Table
running_tables =
    map (λ phase. running_in phase (session (cluster20 ∷ []) listed_two))
    (idle
    ∷ ready
    ∷ processing
    ∷ activating
    ∷ rolled_back
    ∷ cleaning_up ready_cleans_up
    ∷ cleaning_up rolled_back_cleans_up
    ∷ verifying
    ∷ activated
    ∷ rolling_back verifying_rolls_back
    ∷ rolling_back activated_rolls_back
    ∷ cleaning_up activated_cleans_up
    ∷ [])

pub running : running_tables ≡ replicate 7 (cluster20 ∷ []) ++ replicate 5 staged_table
unfolding computing
running = refl

-- ---- the areas

-- "Their areas, each of the declared size, lie back to back in id order from byte 0."
abbrev of_each : {A : Type 0} → (ℕ → List Package → A) → List A
of_each look = map (λ id. look id (package1 ∷ package2 ∷ package3 ∷ package4 ∷ [])) (1 ∷ 2 ∷ 3 ∷ 4 ∷ 5 ∷ [])

pub area_starts : of_each area_start ≡ 0 ∷ 2 ∷ 6 ∷ 7 ∷ 10 ∷ []
unfolding computing area_start
area_starts = refl

pub areas : of_each (λ id packages. area_of id packages bytes_of_four) ≡ bytes "ab" ∷ (bytes "c" ++ replicate 3 0) ∷ bytes "d" ∷ bytes "efg" ∷ [] ∷ []
unfolding computing
areas = refl

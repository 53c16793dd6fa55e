-- "When a call is refused": for each call each refusal of its own with its number, and for each two that can apply at once and have
-- none between them a case in which both do, where the one that document 01 has first is given. A refused call changes nothing, so one
-- start serves many. Which states allow a call is in Permitted. Assumes nothing.
use Prim.Native.Nat.{ℕ, ◌-◌}
use mathlib.Core.Path.{refl}
use mathlib.Core.Bool.{true, false}
use mathlib.Core.List.{List, [], ◌∷◌, ◌++◌, map}
use lib.ListN.{length, take}
use Rattle.base.specs.Quoted.{bytes}
use Rattle.text.specs.Version.{version}
use Rattle.clusters.specs.Cluster.{cluster}
use Rattle.actions.specs.Action.{install, update, remove}
use Rattle.model.specs.State.{transferring, transferred, verifying}
use Rattle.model.specs.Calls.{Call, transfer_start, transfer_data, transfer_exit, delete_transfer, process, work, cancel, revert, activate, rollback, finish, report, given_id, done}
use Rattle.model.specs.Run.{Made}
use Rattle.model.proofs.examples.Open.{computing}
use Rattle.model.proofs.examples.Transcript.{package_text, package_of, Start, loaded_with, ◌gives◌, ◌is_refused_by◌, Answered, from◌calls◌, Hold}
use Rattle.model.proofs.examples.Samples.{cluster20, updated20, cluster30, marked20, clusters, update_text, remove_text, ill_formed_text, long_text, short_text, both_text, begun, in_phase, idle_with, idle_from, idle_holding, ready_with, each_start, unsound, unsound_idle}

-- ---- the calls

-- the twelve calls, each with arguments that the later refusals of its row would refuse
abbrev bad_calls : List Call
bad_calls =
    transfer_start 0
    ∷ transfer_data 9 0 []
    ∷ transfer_exit 9
    ∷ delete_transfer 9
    ∷ process 9
    ∷ work 0
    ∷ cancel 9
    ∷ revert
    ∷ activate
    ∷ rollback
    ∷ finish
    ∷ report true
    ∷ report false
    ∷ []

-- each refused by a number
abbrev all_refused_by : ℕ → List Call → List Made
all_refused_by number made = map (λ call. call is_refused_by number) made

-- "1. BadState: any call but Load", before every other
abbrev bad_state : List Answered
bad_state =
    from unsound calls (all_refused_by 1 bad_calls)
    ∷ from unsound_idle calls (all_refused_by 1 bad_calls)
    ∷ []

-- TransferStart: 7, 16, 17, 18
abbrev of_start : List Answered
of_start =
    from idle_with (package_of 1 1 0 0 transferring ∷ []) 2 3 calls (transfer_start 0 is_refused_by 7 ∷ transfer_start 3 is_refused_by 17 ∷ [])
    -- 7 and 16; 16; 16 and 17
    ∷ from idle_with (begun 16 1) 17 17 calls (transfer_start 0 is_refused_by 7 ∷ transfer_start 1 is_refused_by 16 ∷ transfer_start 2 is_refused_by 16 ∷ [])
    -- 7 and 18; 18; 17 and 18
    ∷ from idle_with [] 4294967296 3 calls (transfer_start 0 is_refused_by 7 ∷ transfer_start 3 is_refused_by 18 ∷ transfer_start 4 is_refused_by 17 ∷ [])
    -- 7 and 17, in a store without bytes; 16 and 18
    ∷ from idle_with [] 1 0 calls (transfer_start 0 is_refused_by 7 ∷ transfer_start 1 is_refused_by 17 ∷ [])
    ∷ from idle_with (begun 16 1) 4294967296 17 calls (transfer_start 1 is_refused_by 16 ∷ [])
    ∷ []

-- TransferData: 4, 5, 6, 7
abbrev of_data : List Answered
of_data =
    from each_start
    calls
    ( -- 4, where 7 would apply to any package; 0 is no id
    transfer_data 6 1 (bytes "a") is_refused_by 4
    ∷ transfer_data 0 1 (bytes "a") is_refused_by 4
    ∷ transfer_data 6 1 [] is_refused_by 4
    -- 5 off Transferring, whose bytes all came: 5 and 7; 5 and 6
    ∷ transfer_data 2 2 (bytes "a") is_refused_by 5
    ∷ transfer_data 3 2 (bytes "a") is_refused_by 5
    ∷ transfer_data 4 2 (bytes "a") is_refused_by 5
    ∷ transfer_data 2 1 (bytes "a") is_refused_by 5
    -- 6; 6 and 7 for each reason; a full package
    ∷ transfer_data 1 1 (bytes "a") is_refused_by 6
    ∷ transfer_data 1 3 [] is_refused_by 6
    ∷ transfer_data 1 1 (bytes "abc") is_refused_by 6
    ∷ transfer_data 5 3 (bytes "a") is_refused_by 6
    -- 7: "data empty, or data past the declared size"
    ∷ transfer_data 1 2 [] is_refused_by 7
    ∷ transfer_data 1 2 (bytes "abc") is_refused_by 7
    ∷ transfer_data 5 2 (bytes "a") is_refused_by 7
    ∷ [])
    ∷ []

-- all bytes of a package but the last
abbrev calls_before_last : List ℕ → List Made
calls_before_last text = transfer_start (length text) gives given_id 1 ∷ transfer_data 1 1 (take (length text - 1) text) gives done ∷ []

-- TransferExit: 4, 5, 8, 9, 10
abbrev of_exit : List Answered
of_exit =
    -- 4; 5 off Transferring, and 5 and 9: these areas hold no package text; 8 and 9; 9
    from each_start
    calls
    (transfer_exit 6 is_refused_by 4
    ∷ transfer_exit 2 is_refused_by 5
    ∷ transfer_exit 3 is_refused_by 5
    ∷ transfer_exit 4 is_refused_by 5
    ∷ transfer_exit 1 is_refused_by 8
    ∷ transfer_exit 5 is_refused_by 9
    ∷ [])
    -- 9; 10 for each reason; 9 and 10
    ∷ from idle_holding transferring (update_text ∷ ill_formed_text ∷ long_text ∷ short_text ∷ both_text ∷ [])
    calls
    (transfer_exit 2 is_refused_by 9
    ∷ transfer_exit 3 is_refused_by 10
    ∷ transfer_exit 4 is_refused_by 10
    ∷ transfer_exit 5 is_refused_by 9
    ∷ transfer_exit 1 gives done
    ∷ [])
    -- 5 and 10
    ∷ from idle_holding transferred (long_text ∷ []) calls (transfer_exit 1 is_refused_by 5 ∷ [])
    -- 8; 8 and 10: the last payload byte is missing
    ∷ from loaded_with 1 99 calls (calls_before_last update_text ++ transfer_exit 1 is_refused_by 8 ∷ transfer_data 1 2 (bytes "c") gives done ∷ transfer_exit 1 gives done ∷ [])
    ∷ from loaded_with 1 99 calls (calls_before_last long_text ++ transfer_exit 1 is_refused_by 8 ∷ transfer_data 1 2 (bytes "c") gives done ∷ transfer_exit 1 is_refused_by 10 ∷ [])
    ∷ []

-- DeleteTransfer: 4, 5
abbrev of_delete : List Answered
of_delete =
    from each_start
    calls
    (delete_transfer 6 is_refused_by 4
    ∷ delete_transfer 0 is_refused_by 4
    ∷ delete_transfer 3 is_refused_by 5
    ∷ delete_transfer 4 is_refused_by 5
    ∷ delete_transfer 1 gives done
    ∷ delete_transfer 1 is_refused_by 4
    ∷ delete_transfer 2 gives done
    ∷ [])
    ∷ []

-- a session with 20 raised, 40 taken out and 30 installed; the packages from 4 on are Transferred
abbrev touched_start : Start
touched_start =
    ready_with
    (cluster20 ∷ cluster 40 (version 1 0 0 0) [] ∷ [])
    (update updated20 ∷ remove 40 ∷ install cluster30 ∷ [])
    (package_text "update,20,1.0.6.0,0,0,," ""
    ∷ remove_text
    ∷ package_text "install,40,1.0.0.0,0,0,," ""
    ∷ package_text "install,30,1.0.0.0,0,0,," ""
    ∷ package_text "update,40,2.0.0.0,0,0,," ""
    ∷ package_text "remove,40,,0,0,," ""
    ∷ package_text "update,20,1.0.5.0,0,0,," ""
    ∷ ill_formed_text
    ∷ long_text
    ∷ [])

-- Idle with 64 clusters from 101 on
abbrev full_start : Start
full_start =
    idle_from
    (clusters 64 101)
    transferred
    (package_text "install,30,1.0.0.0,0,0,," ""
    ∷ package_text "install,101,1.0.0.0,0,0,," ""
    ∷ package_text "update,30,1.0.0.0,0,0,," ""
    ∷ package_text "update,101,1.0.0.0,0,0,," ""
    ∷ [])

-- a session of which 64 clusters are staged: one was taken out, another installed
abbrev full_again : Start
full_again =
    ready_with
    (clusters 64 101)
    (remove 101 ∷ install cluster30 ∷ [])
    (package_text "install,101,1.0.0.0,0,0,," "" ∷ package_text "install,31,1.0.0.0,0,0,," "" ∷ [])

-- Idle with 20 marked and 30 not; the packages are Transferred
abbrev marked_start : Start
marked_start =
    idle_from
    (marked20 ∷ cluster30 ∷ [])
    transferred
    (remove_text
    ∷ package_text "remove,30,,0,0,," ""
    ∷ package_text "remove,50,,0,0,," ""
    ∷ package_text "install,20,2.0.0.0,0,0,," ""
    ∷ package_text "update,20,1.0.4.0,0,0,," ""
    ∷ package_text "remove,20,,0,0,," "a"
    ∷ [])

-- a session in which 20, marked, is raised; the package 2 removes it
abbrev marked_raised : Start
marked_raised = ready_with (marked20 ∷ []) (update updated20 ∷ []) (remove_text ∷ [])

-- Process: 2, 3, 4, 5, 9, 10, 11, 12, 13, 21, 14, 15
abbrev of_process : List Answered
of_process =
    -- 2 and 3, and with 4 and 5 too
    from each_start calls (process 2 is_refused_by 2 ∷ process 6 is_refused_by 2 ∷ process 3 is_refused_by 2 ∷ [])
    -- 3; 3 and 4; 3 and 5
    ∷ from in_phase verifying touched_start calls (process 4 is_refused_by 3 ∷ process 13 is_refused_by 3 ∷ process 1 is_refused_by 3 ∷ [])
    -- 4; 5 off Transferred: 5 and 9
    ∷ from touched_start
    calls
    (process 13 is_refused_by 4
    ∷ process 0 is_refused_by 4
    ∷ process 1 is_refused_by 5
    -- 11 of an update, a remove and an install; 11 and 12; 11 and 13 of an update and a remove; 11 and 14
    ∷ process 4 is_refused_by 11
    ∷ process 5 is_refused_by 11
    ∷ process 6 is_refused_by 11
    ∷ process 7 is_refused_by 11
    ∷ process 8 is_refused_by 11
    ∷ process 9 is_refused_by 11
    ∷ process 10 is_refused_by 11
    -- 9 and 11; 10 and 11
    ∷ process 11 is_refused_by 9
    ∷ process 12 is_refused_by 10
    ∷ [])
    -- 5 of Transferring packages; 5 and 9; 5 and 10
    ∷ from idle_holding transferring (update_text ∷ ill_formed_text ∷ long_text ∷ [])
    calls
    (process 1 is_refused_by 5
    ∷ process 2 is_refused_by 5
    ∷ process 3 is_refused_by 5
    ∷ [])
    -- 9; 10 for each reason; 9 and 10
    ∷ from idle_holding transferred (update_text ∷ ill_formed_text ∷ long_text ∷ short_text ∷ both_text ∷ [])
    calls
    (process 2 is_refused_by 9
    ∷ process 3 is_refused_by 10
    ∷ process 4 is_refused_by 10
    ∷ process 5 is_refused_by 9
    ∷ process 1 gives done
    ∷ [])
    -- 12; 13 of an update and a remove; 14 of the same version and of a lower one; 10 and 12, 13, 14
    ∷ from idle_holding
    transferred
    (package_text "install,20,2.0.0.0,0,0,," ""
    ∷ package_text "update,50,2.0.0.0,0,0,," ""
    ∷ package_text "remove,50,,0,0,," ""
    ∷ package_text "update,20,1.0.4.0,0,0,," ""
    ∷ package_text "update,20,1.0.3.9,0,0,," ""
    ∷ package_text "install,20,2.0.0.0,1,0,," ""
    ∷ package_text "update,50,2.0.0.0,1,0,," ""
    ∷ package_text "update,20,1.0.4.0,1,0,," ""
    ∷ [])
    calls
    (process 1 is_refused_by 12
    ∷ process 2 is_refused_by 13
    ∷ process 3 is_refused_by 13
    ∷ process 4 is_refused_by 14
    ∷ process 5 is_refused_by 14
    ∷ process 6 is_refused_by 10
    ∷ process 7 is_refused_by 10
    ∷ process 8 is_refused_by 10
    ∷ [])
    -- 21 of a remove of the marked cluster alone; 13, 12 and 14 beside a mark; 10 and 21
    ∷ from marked_start
    calls
    (process 1 is_refused_by 21
    ∷ process 3 is_refused_by 13
    ∷ process 4 is_refused_by 12
    ∷ process 5 is_refused_by 14
    ∷ process 6 is_refused_by 10
    ∷ process 2 gives done
    ∷ [])
    -- 11 and 21
    ∷ from marked_raised calls (process 2 is_refused_by 11 ∷ [])
    -- 15; 12 and 15; with 64 staged 13 and 14 as ever
    ∷ from full_start calls (process 1 is_refused_by 15 ∷ process 2 is_refused_by 12 ∷ process 3 is_refused_by 13 ∷ process 4 is_refused_by 14 ∷ [])
    -- 11 and 15; 15
    ∷ from full_again calls (process 3 is_refused_by 11 ∷ process 4 is_refused_by 15 ∷ [])
    ∷ []

-- the others: 3 and, of Cancel, 4
abbrev of_others : List Answered
of_others =
    -- 4 of Cancel: no package, and each other package; then the one that is processing
    from each_start
    calls
    (cancel 6 is_refused_by 4
    ∷ cancel 0 is_refused_by 4
    ∷ cancel 1 is_refused_by 4
    ∷ cancel 2 is_refused_by 4
    ∷ cancel 4 is_refused_by 4
    ∷ cancel 3 gives done
    ∷ all_refused_by 3 (revert ∷ activate ∷ rollback ∷ finish ∷ report true ∷ report false ∷ []))
    -- 3 and 4 of Cancel
    ∷ from touched_start calls (all_refused_by 3 (work 0 ∷ cancel 4 ∷ cancel 13 ∷ rollback ∷ finish ∷ report true ∷ report false ∷ []))
    ∷ from in_phase verifying touched_start calls (all_refused_by 3 (work 0 ∷ cancel 4 ∷ revert ∷ activate ∷ finish ∷ []))
    ∷ []

pub refusals : Hold (bad_state ++ of_start ++ of_data ++ of_exit ++ of_delete ++ of_process ++ of_others)
unfolding computing
refusals = refl

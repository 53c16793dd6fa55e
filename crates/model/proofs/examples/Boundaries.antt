-- The limits of the calls, each from both sides: the last that is accepted and the first that is refused. So a manager that says full
-- too soon does not hold, nor one that says it too late. Load's are in Loads, those of Work in Answers, those of a state in Soundness.
-- Assumes nothing.
use Prim.Native.Nat.{ℕ, zero, suc}
use mathlib.Core.Path.{◌≡◌, refl}
use mathlib.Core.Bool.{true}
use mathlib.Core.List.{List, [], ◌∷◌, ◌++◌}
use lib.ListN.{length, replicate}
use Rattle.base.specs.Quoted.{bytes, LF}
use Rattle.text.specs.Version.{version}
use Rattle.clusters.specs.Cluster.{cluster, need}
use Rattle.actions.specs.Action.{install, remove}
use Rattle.model.specs.State.{Store, transferring, transferred}
use Rattle.model.specs.Calls.{Reply, transfer_start, transfer_data, transfer_exit, delete_transfer, process, activate, report, given_id, done, missing_dependencies, refused, accepted}
use Rattle.model.specs.Step.{step}
use Rattle.model.specs.Load.{loaded_state}
use Rattle.model.proofs.examples.Open.{computing}
use Rattle.model.proofs.examples.Transcript.{line, package_text, loaded_with, ◌gives◌, ◌is_refused_by◌, calls_to_process, calls_to_verifying, Answered, from◌calls◌, Hold}
use Rattle.model.proofs.examples.Samples.{clusters, begun, idle_with, idle_from, idle_holding, ready_with}

-- ---- TransferStart

abbrev of_start : List Answered
of_start =
    -- sizes: 1 at least, and all free bytes at most
    from loaded_with 1 9
    calls
    (transfer_start 0 is_refused_by 7
    ∷ transfer_start 10 is_refused_by 17
    ∷ transfer_start 1 gives given_id 1
    ∷ transfer_start 9 is_refused_by 17
    ∷ transfer_start 8 gives given_id 2
    ∷ transfer_start 1 is_refused_by 17
    -- freed bytes can be given again, and a refused call spends no id
    ∷ delete_transfer 1 gives done
    ∷ transfer_start 2 is_refused_by 17
    ∷ transfer_start 1 gives given_id 3
    ∷ [])
    -- "At most 16 packages."
    ∷ from idle_with (begun 15 1) 16 17
    calls
    (transfer_start 1 gives given_id 16
    ∷ transfer_start 1 is_refused_by 16
    ∷ delete_transfer 5 gives done
    ∷ transfer_start 1 gives given_id 17
    ∷ transfer_start 1 is_refused_by 16
    ∷ [])
    -- the last id, and none behind it, also when its package is gone
    ∷ from loaded_with 4294967294 9
    calls
    (transfer_start 1 gives given_id 4294967294
    ∷ transfer_start 1 gives given_id 4294967295
    ∷ transfer_start 1 is_refused_by 18
    ∷ delete_transfer 4294967295 gives done
    ∷ delete_transfer 4294967294 gives done
    ∷ transfer_start 1 is_refused_by 18
    ∷ [])
    ∷ []

-- ---- TransferData and TransferExit

abbrev of_data : List Answered
of_data =
    -- the counter "begins at 1 and rises by one per accepted block"; a refused one does not count
    from loaded_with 1 5
    calls
    (transfer_start 5 gives given_id 1
    ∷ transfer_data 1 0 (bytes "a") is_refused_by 6
    ∷ transfer_data 1 2 (bytes "a") is_refused_by 6
    ∷ transfer_data 1 1 (bytes "a") gives done
    ∷ transfer_data 1 1 (bytes "b") is_refused_by 6
    ∷ transfer_data 1 3 (bytes "b") is_refused_by 6
    ∷ transfer_data 1 2 (bytes "b") gives done
    -- from one byte up to the declared size; then none fits
    ∷ transfer_data 1 3 [] is_refused_by 7
    ∷ transfer_data 1 3 (bytes "cdef") is_refused_by 7
    ∷ transfer_data 1 3 (bytes "cde") gives done
    ∷ transfer_data 1 4 (bytes "f") is_refused_by 7
    ∷ transfer_data 1 4 [] is_refused_by 7
    ∷ [])
    -- a block as long as a package of 100 bytes, and one byte longer; the free bytes behind it play no part
    ∷ from loaded_with 1 200
    calls
    (transfer_start 100 gives given_id 1
    ∷ transfer_data 1 1 (replicate 101 7) is_refused_by 7
    ∷ transfer_data 1 1 (replicate 100 7) gives done
    ∷ [])
    ∷ []

-- as many value lines that fill needs and least alone
abbrev need_lines : ℕ → List ℕ
need_lines zero = []
need_lines (suc n) = line ",,,,,20,1.0.0.0" ++ need_lines n

-- a package with these value lines behind the first
abbrev with_further : List ℕ → List ℕ
with_further lines =
    line "action,cluster,version,payload,sum,needs,least" ++ line "install,30,1.0.0.0,0,0,," ++ lines ++ LF ∷ []

abbrev of_exit : List Answered
of_exit =
    from idle_holding
    transferring
    (package_text "install,30,1.0.0.0,0,65535,," ""
    ∷ package_text "install,30,1.0.0.0,0,65536,," ""
    ∷ package_text "install,30,1.0.0.0,16777216,0,," ""
    ∷ package_text "install,30,1.0.0.0,16777217,0,," ""
    ∷ with_further (need_lines 3)
    ∷ with_further (need_lines 4)
    ∷ package_text "install,30,0.0.0.4294967295,0,0,20,0.0.0.4294967295" ""
    ∷ package_text "install,30,0.0.0.4294967296,0,0,20,0.0.0.4294967295" ""
    ∷ package_text "install,30,0.0.0.4294967295,0,0,20,0.0.0.4294967296" ""
    ∷ package_text "install,30,0.0.65536.0,0,0,," ""
    ∷ with_further (line ",,,,,20,0.0.0.4294967295")
    ∷ with_further (line ",,,,,20,0.0.0.4294967296")
    ∷ [])
    calls
    ( -- "sum 0 to 65,535"
    transfer_exit 1 gives done
    ∷ transfer_exit 2 is_refused_by 9
    -- "Payload is 0 to 16,777,216": so many bytes did not come, and 10 says that the number is one
    ∷ transfer_exit 3 is_refused_by 10
    ∷ transfer_exit 4 is_refused_by 9
    -- "1 to 4 value lines"
    ∷ transfer_exit 5 gives done
    ∷ transfer_exit 6 is_refused_by 9
    -- A.7: "The fourth version part may be 0 to 4,294,967,295.", of the cluster and of a need's least version, on a further line too; the
    -- others stay
    ∷ transfer_exit 7 gives done
    ∷ transfer_exit 8 is_refused_by 9
    ∷ transfer_exit 9 is_refused_by 9
    ∷ transfer_exit 10 is_refused_by 9
    ∷ transfer_exit 11 gives done
    ∷ transfer_exit 12 is_refused_by 9
    ∷ [])
    ∷ []

-- ---- Process

abbrev install_text : List ℕ
install_text = package_text "install,30,1.0.0.0,0,0,," ""

abbrev of_process : List Answered
of_process =
    -- 14: the first part that differs decides; the same version, and the next above it
    from idle_from
    (cluster 20 (version 2 3 4 5) [] ∷ [])
    transferred
    (package_text "update,20,1.9.9.9,0,0,," ""
    ∷ package_text "update,20,2.2.9.9,0,0,," ""
    ∷ package_text "update,20,2.3.3.9,0,0,," ""
    ∷ package_text "update,20,2.3.4.4,0,0,," ""
    ∷ package_text "update,20,2.3.4.5,0,0,," ""
    ∷ package_text "update,20,2.3.4.6,0,0,," ""
    ∷ [])
    calls
    (process 1 is_refused_by 14
    ∷ process 2 is_refused_by 14
    ∷ process 3 is_refused_by 14
    ∷ process 4 is_refused_by 14
    ∷ process 5 is_refused_by 14
    ∷ process 6 gives done
    ∷ [])
    -- the same with builds that are "stamped with a second count" (A.7), and above the largest of them
    ∷ from idle_from
    (cluster 20 (version 0 1 0 1547190872) [] ∷ cluster 30 (version 1 0 0 4294967295) [] ∷ [])
    transferred
    (package_text "update,20,0.1.0.1547190872,0,0,," ""
    ∷ package_text "update,30,1.0.0.4294967295,0,0,," ""
    ∷ package_text "update,20,0.1.0.1547190873,0,0,," ""
    ∷ package_text "update,30,1.0.1.0,0,0,," ""
    ∷ [])
    calls
    (process 1 is_refused_by 14 ∷ process 2 is_refused_by 14 ∷ (calls_to_process 3 0 ++ process 4 gives done ∷ []))
    -- an update to the next main version is above too. A need of the one before is then missed by Report (A.5), until it is updated
    ∷ from idle_from
    (cluster 11 (version 1 0 0 3) (need 20 (version 2 0 0 0) ∷ []) ∷ cluster 20 (version 2 3 4 5) [] ∷ [])
    transferred
    (package_text "update,20,3.0.0.0,0,0,," "" ∷ package_text "update,11,1.0.0.4,0,0,20,3.0.0.0" "" ∷ [])
    calls
    (calls_to_process 1 0 ++ (activate gives done ∷ report true gives missing_dependencies ∷ []) ++ calls_to_process 2 0 ++ calls_to_verifying)
    -- 15: the 64th cluster, and none more; what counts is staged, not what the session began with
    ∷ from ready_with (clusters 63 101) (remove 101 ∷ install (cluster 31 (version 1 0 0 0) []) ∷ []) (install_text ∷ []) calls (process 3 gives done ∷ [])
    ∷ from ready_with (clusters 63 101) (install (cluster 31 (version 1 0 0 0) []) ∷ []) (install_text ∷ []) calls (process 2 is_refused_by 15 ∷ [])
    ∷ from ready_with (clusters 64 101) (remove 101 ∷ []) (install_text ∷ []) calls (process 2 gives done ∷ [])
    ∷ []

pub boundaries : Hold (of_start ++ of_data ++ of_exit ++ of_process)
unfolding computing
boundaries = refl

-- ---- the longest store

-- TransferStart of a size in a store, behind a Load
abbrev started : Store → ℕ → Reply
started store size = (step (loaded_state [] 1) store (transfer_start size)).reply

pub record LongestStore : Type 0 where
  -- the whole of it can be given, and a store one byte longer serves no call
  pub all_of_it : (store : Store) → length store ≡ 16777216 → started store 16777216 ≡ accepted (given_id 1)
  pub one_more : (store : Store) → length store ≡ 16777216 → started store 16777217 ≡ refused 17
  pub too_long : (store : Store) → length store ≡ 16777217 → started store 1 ≡ refused 1

pub longest_store : LongestStore
unfolding computing
longest_store =
    record {
      all_of_it = λ store e. rw (e, started) refl;
      one_more = λ store e. rw (e, started) refl;
      too_long = λ store e. rw (e, started) refl;
    }

-- Sessions from a Load on, call by call: each call with its answer, the manager's state after it, and what the journal of demand 3 says
-- then. They end by Finish from Activated, by Finish after a completed Rollback, with no package processed (a cancel, another sum), by
-- Revert, and by Finish again: a later session changes the table too. On the way every named failure is met, and refused calls change
-- nothing. Packages take bytes that those of an earlier session had. Assumes nothing.
use Prim.Native.Nat.{ℕ}
use mathlib.Core.Path.{◌≡◌, refl}
use mathlib.Core.Bool.{Bool, true, false}
use mathlib.Core.List.{List, [], ◌∷◌, ◌++◌, map}
use mathlib.Core.Option.{none}
use lib.ListN.{replicate}
use Rattle.base.specs.Quoted.{bytes}
use Rattle.text.specs.Version.{version}
use Rattle.clusters.specs.Cluster.{Cluster, cluster, need}
use Rattle.clusters.specs.Table.{Table}
use Rattle.actions.specs.Action.{Action, install, update}
use Rattle.model.specs.State.{transferred, verifying_rolls_back, activated_rolls_back, ready_cleans_up, activated_cleans_up, rolled_back_cleans_up, Phase, idle, ready, processing, activating, verifying, activated, rolling_back, rolled_back, cleaning_up, State, Store, state}
use Rattle.model.specs.Calls.{Call, transfer_start, transfer_data, transfer_exit, delete_transfer, process, work, cancel, revert, activate, rollback, finish, report, given_id, done, working, processed, cancelled, inconsistent, pre_activation_failed, missing_dependencies, verification_failed, not_able_to_rollback, not_able_to_revert, cleaning_failed}
use Rattle.model.specs.Step.{step}
use Rattle.model.specs.Run.{Made, accepted_only}
use Rattle.model.specs.Journal.{Direction, no_direction, to_activate, to_revert, to_rollback, to_finish, Journal, opened, noted, journal}
use Rattle.model.specs.Demand3.{session_goes_on}
use Rattle.model.proofs.examples.Open.{computing}
use Rattle.model.proofs.examples.Transcript.{package_text, package_of, transfers, session, Start, start, loaded_with, ◌gives◌, ◌is_refused_by◌, calls_to_transfer, after}
use Rattle.model.proofs.examples.Samples.{cluster20, updated20, update_text}
use Rattle.model.proofs.examples.BenchExamples.{install_text}

-- ---- what is seen after a call

-- what the journal says, but for the blocks
pub record Notes : Type 0 where
  pub direction : Direction
  pub last_process : ℕ
  pub rollback_completed : Bool
  pub is_idle : Bool
  pub B : Table
  pub R : Table
  pub A : List Action

abbrev notes : Direction → ℕ → Bool → Bool → Table → Table → List Action → Notes
notes direction last completed is_idle b r a =
    record { direction = direction; last_process = last; rollback_completed = completed; is_idle = is_idle; B = b; R = r; A = a }

abbrev notes_of : Journal → Notes
notes_of j = notes j.direction j.last_process j.rollback_completed j.is_idle j.B j.R j.A

-- a call with its answer, the manager's state after it, and what the journal says then
pub record Line : Type 0 where
  pub made : Made
  pub phase : Phase
  pub noted : Notes

abbrev line : Phase → Notes → Made → Line
line phase n m = record { made = m; phase = phase; noted = n }

-- the calls of a transcript, made from a state, store and journal on
abbrev played : State → Store → Journal → List Made → List Line
played s store j [] = []
played s store j (m ∷ rest) =
    let o = step s store m.call in
    let made : Made = record { call = m.call; reply = o.reply } in
    let later = noted made j in
    line o.state.phase (notes_of later) made ∷ played o.state o.store later rest

-- ---- the sessions

abbrev loaded : Start
loaded = loaded_with 1 240

-- another sum than that of no bytes
abbrev wrong_sum_text : List ℕ
wrong_sum_text = package_text "remove,30,,0,1,," ""

-- it needs a cluster that no table has
abbrev needing_text : List ℕ
needing_text = package_text "install,40,1.0.0.0,0,0,50,1.0.0.0" ""

abbrev needing : Cluster
needing = cluster 40 (version 1 0 0 0) (need 50 (version 1 0 0 0) ∷ [])

abbrev installed : Cluster
installed = cluster 30 (version 1 0 0 0) (need 20 (version 1 0 4 0) ∷ [])

-- the tables of the list, after the first session, and with the update
abbrev table0 : Table
table0 = cluster20 ∷ []

abbrev table1 : Table
table1 = cluster20 ∷ installed ∷ []

abbrev table2 : Table
table2 = updated20 ∷ installed ∷ []

module _ (direction : Direction) (last : ℕ) (b r : Table) (a : List Action) where
  -- after each of these calls the same is said: in a session; after its completed Rollback; Idle
  abbrev during : Phase → List Made → List Line
  during phase made = map (line phase (notes direction last false false b r a)) made

  abbrev undone : Phase → List Made → List Line
  undone phase made = map (line phase (notes direction last true false b r a)) made

  abbrev between : List Made → List Line
  between made = map (line idle (notes direction last false true b r a)) made

abbrev installing : List Action
installing = install installed ∷ []

abbrev updating : List Action
updating = update updated20 ∷ []

abbrev first_session : List Line
first_session =
    between no_direction 0 table0 table0 [] (calls_to_transfer 1 install_text ++ process 2 is_refused_by 4 ∷ [])
    ++ during no_direction 1 table0 table0 [] processing (process 1 gives done ∷ work 2 gives working ∷ process 1 is_refused_by 2 ∷ [])
    ++ during no_direction 1 table0 table0 installing ready (work 3 gives processed ∷ finish is_refused_by 3 ∷ [])
    ++ during to_activate 1 table0 table0 installing activating (activate gives done ∷ [])
    ++ during to_activate 1 table0 table0 installing ready (report false gives pre_activation_failed ∷ [])
    ++ during to_revert 1 table0 table0 installing (cleaning_up ready_cleans_up) (revert gives done ∷ [])
    ++ during to_revert 1 table0 table0 installing ready (report false gives not_able_to_revert ∷ [])
    ++ during to_activate 1 table0 table0 installing activating (activate gives done ∷ [])
    ++ during to_activate 1 table0 table1 installing verifying (report true gives done ∷ report false gives verification_failed ∷ [])
    ++ during to_rollback 1 table0 table1 installing (rolling_back verifying_rolls_back) (rollback gives done ∷ [])
    ++ during to_activate 1 table0 table1 installing verifying (report false gives not_able_to_rollback ∷ [])
    ++ during to_activate 1 table0 table1 installing activated (report true gives done ∷ [])
    ++ during to_rollback 1 table0 table1 installing (rolling_back activated_rolls_back) (rollback gives done ∷ [])
    ++ during to_activate 1 table0 table1 installing activated (report false gives not_able_to_rollback ∷ [])
    ++ during to_finish 1 table0 table1 installing (cleaning_up activated_cleans_up) (finish gives done ∷ report false gives cleaning_failed ∷ [])
    ++ between to_finish 1 table1 table1 [] (report true gives done ∷ [])

-- a completed Rollback
abbrev second_session : List Line
second_session =
    between to_finish 1 table1 table1 [] (calls_to_transfer 2 update_text)
    ++ during to_finish 2 table1 table1 [] processing (process 2 gives done ∷ [])
    ++ during to_finish 2 table1 table1 updating ready (work 3 gives processed ∷ [])
    ++ during to_activate 2 table1 table1 updating activating (activate gives done ∷ [])
    ++ during to_activate 2 table1 table2 updating verifying (report true gives done ∷ [])
    ++ during to_activate 2 table1 table2 updating activated (report true gives done ∷ [])
    ++ during to_rollback 2 table1 table2 updating (rolling_back activated_rolls_back) (rollback gives done ∷ [])
    ++ undone to_rollback 2 table1 table1 updating rolled_back (report true gives done ∷ [])
    ++ undone to_finish 2 table1 table1 updating (cleaning_up rolled_back_cleans_up) (finish gives done ∷ report false gives cleaning_failed ∷ [])
    ++ between to_finish 2 table1 table1 [] (report true gives done ∷ [])

-- two sessions with no package processed: one is cancelled, one has another sum
abbrev third_session : List Line
third_session =
    between to_finish 2 table1 table1 [] (calls_to_transfer 3 update_text ++ calls_to_transfer 4 wrong_sum_text)
    ++ during to_finish 3 table1 table1 [] processing (process 3 gives done ∷ cancel 3 gives done ∷ [])
    ++ between to_finish 3 table1 table1 [] (work 3 gives cancelled ∷ [])
    ++ during to_finish 4 table1 table1 [] processing (process 4 gives done ∷ [])
    ++ between to_finish 4 table1 table1 [] (work 0 gives inconsistent ∷ [])

-- the second package of this session fails, and a need of the third is not met; then all is reverted
abbrev fourth_session : List Line
fourth_session =
    during to_finish 3 table1 table1 [] processing (process 3 gives done ∷ [])
    ++ during to_finish 3 table1 table1 updating ready (work 3 gives processed ∷ [])
    ++ during to_finish 4 table1 table1 updating processing (process 4 gives done ∷ [])
    ++ during to_finish 4 table1 table1 updating ready (work 0 gives inconsistent ∷ [])
    ++ during to_finish 4 table1 table1 updating processing (process 4 gives done ∷ cancel 4 gives done ∷ [])
    ++ during to_finish 4 table1 table1 updating ready (work 0 gives cancelled ∷ calls_to_transfer 5 needing_text)
    ++ during to_finish 5 table1 table1 updating processing (process 5 gives done ∷ [])
    ++ during to_finish 5 table1 table1 (updating ++ install needing ∷ []) ready (work 0 gives processed ∷ [])
    ++ during to_activate 5 table1 table1 (updating ++ install needing ∷ []) activating (activate gives done ∷ [])
    ++ during to_activate 5 table1 table1 (updating ++ install needing ∷ []) ready (report true gives missing_dependencies ∷ [])
    ++ during to_revert 5 table1 table1 (updating ++ install needing ∷ []) (cleaning_up ready_cleans_up) (revert gives done ∷ [])
    ++ between to_revert 5 table1 table1 [] (report true gives done ∷ [])

abbrev fifth_session : List Line
fifth_session =
    between to_revert 5 table1 table1 [] (calls_to_transfer 6 update_text)
    ++ during to_revert 6 table1 table1 [] processing (process 6 gives done ∷ [])
    ++ during to_revert 6 table1 table1 updating ready (work 3 gives processed ∷ [])
    ++ during to_activate 6 table1 table1 updating activating (activate gives done ∷ [])
    ++ during to_activate 6 table1 table2 updating verifying
    (report true gives done
    ∷ transfer_start 3 gives given_id 7
    ∷ transfer_data 7 1 (bytes "ab") gives done
    ∷ transfer_exit 7 is_refused_by 8
    ∷ transfer_data 7 2 (bytes "c") gives done
    ∷ delete_transfer 7 gives done
    ∷ [])
    ++ during to_activate 6 table1 table2 updating activated (report true gives done ∷ [])
    ++ during to_finish 6 table1 table2 updating (cleaning_up activated_cleans_up) (finish gives done ∷ [])
    ++ between to_finish 6 table2 table2 [] (report true gives done ∷ [])

abbrev all_sessions : List Line
all_sessions = first_session ++ second_session ++ third_session ++ fourth_session ++ fifth_session

abbrev transcript : List Line → List Made
transcript lines = map (λ l. l.made) lines

-- the journal's joined blocks of the ids given, and of the next, in the end
abbrev joined_blocks : List (List ℕ)
joined_blocks =
    let j = journal (opened table0) (transcript all_sessions) in
    map (λ id. j.blocks id) (1 ∷ 2 ∷ 3 ∷ 4 ∷ 5 ∷ 6 ∷ 7 ∷ 8 ∷ [])

-- whether the session goes on with these calls, once the first package is transferred
abbrev goes_on : List Call → Bool
goes_on made =
    let r = after loaded (calls_to_transfer 1 install_text) in
    session_goes_on r.state r.store made

-- a list that no manager answers so: a package is processed while the staged table runs
abbrev made_up : List Made
made_up =
    transfer_data 1 1 install_text gives done
    ∷ process 1 gives done
    ∷ work 9 gives processed
    ∷ activate gives done
    ∷ report true gives done
    ∷ transfer_data 2 1 update_text gives done
    ∷ process 2 gives done
    ∷ work 9 gives processed
    ∷ []

pub record Sessions : Type 0 where
  pub answers : played loaded.state loaded.store (opened table0) (transcript all_sessions) ≡ all_sessions
  -- each session's packages are gone from the store; the one that was never Processed is left, from byte 0 on
  pub leaves : (let r = after loaded (transcript all_sessions) in start r.state r.store)
      ≡ start (state idle (transfers (package_of 4 65 65 2 transferred ∷ []) 8) (session table2 []) none) (wrong_sum_text ++ replicate 175 0)
  -- "its accepted blocks, joined", by id; those of deleted packages stay in the journal
  pub blocks : joined_blocks ≡ install_text ∷ update_text ∷ update_text ∷ wrong_sum_text ∷ needing_text ∷ update_text ∷ bytes "abc" ∷ [] ∷ []
  -- "Its book sees each call and its answer, nothing of the state.": what a call does not name in it stays
  pub stays_otherwise : notes_of (journal (opened table0) made_up)
      ≡ notes to_activate 2 false false table0 table1 (install installed ∷ update updated20 ∷ [])
  -- "The list without its refused calls"
  pub without_refused : accepted_only (process 2 is_refused_by 4 ∷ process 1 gives done ∷ work 0 is_refused_by 3 ∷ work 9 gives processed ∷ [])
      ≡ process 1 gives done ∷ work 9 gives processed ∷ []
  -- "that session" goes on as long as no call ends in Idle
  pub going_on : map goes_on
      ((process 1 ∷ work 5 ∷ revert ∷ [])
      ∷ (process 1 ∷ work 5 ∷ revert ∷ report true ∷ [])
      ∷ (process 1 ∷ work 5 ∷ revert ∷ report true ∷ process 1 ∷ [])
      ∷ (process 2 ∷ process 1 ∷ [])
      ∷ [] ∷ [])
      ≡ true ∷ false ∷ false ∷ false ∷ true ∷ []

pub sessions : Sessions
unfolding computing session_goes_on
sessions = record { answers = refl; leaves = refl; blocks = refl; stays_otherwise = refl; without_refused = refl; going_on = refl }

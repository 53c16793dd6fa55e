-- "Near misses for a builder", and those of A.6, each as lists of calls from a Load on that the near miss would answer otherwise or end in
-- another state or with another running table. Assumes nothing.
use Prim.Native.Nat.{ℕ}
use mathlib.Core.Path.{refl}
use mathlib.Core.Bool.{true, false}
use mathlib.Core.List.{List, [], ◌∷◌, ◌++◌}
use Rattle.text.specs.Version.{version}
use Rattle.clusters.specs.Cluster.{Cluster, cluster, need}
use Rattle.clusters.specs.Table.{Table}
use Rattle.model.specs.State.{Phase, idle, ready, verifying, rolling_back, verifying_rolls_back}
use Rattle.model.specs.Calls.{process, work, cancel, activate, rollback, report, done, working, cancelled, inconsistent, pre_activation_failed, missing_dependencies}
use Rattle.model.specs.Tables.{running}
use Rattle.model.specs.Run.{Run}
use Rattle.model.proofs.examples.Open.{computing}
use Rattle.model.proofs.examples.Transcript.{line, four_names_text, package_text, Start, loaded_from, loaded_with, ◌gives◌, calls_to_transfer, calls_to_process, calls_to_verifying, Case, from◌calls◌, ◌ends◌, HoldLooking}
use Rattle.model.proofs.examples.Samples.{cluster20, remove_text}
use Rattle.model.proofs.examples.BenchExamples.{install_text, to_ready, to_verifying}

-- the manager's state and the running table
pub record Ending : Type 0 where
  pub phase : Phase
  pub table : Table

abbrev ending : Phase → Table → Ending
ending phase table = record { phase = phase; table = table }

abbrev ending_of : Run → Ending
ending_of r = ending r.state.phase (running r.state)

abbrev loaded : Start
loaded = loaded_with 1 200

-- cluster 11 needs 20
abbrev loaded_dependent : Start
loaded_dependent = loaded_from (four_names_text "11,1.0.0.3,20,1.0.0.0" ++ line "20,1.0.4.0,,") 1 200

-- cluster 30 needs 40, which is not there
abbrev loaded_unmet : Start
loaded_unmet = loaded_from (four_names_text "30,1.0.0.0,40,2.0.1.0") 1 200

abbrev wrong_sum_text : List ℕ
wrong_sum_text = package_text "remove,20,,0,1,," ""

-- 30 needs 40 at 2.0.1.0, which the next brings, and the one behind it does not
abbrev dependent_text : List ℕ
dependent_text = package_text "install,30,1.0.0.0,0,0,40,2.0.1.0" ""

abbrev needed_text : List ℕ
needed_text = package_text "install,40,2.0.1.0,0,0,," ""

abbrev unrelated_text : List ℕ
unrelated_text = package_text "install,50,1.0.0.0,0,0,," ""

abbrev too_low_text : List ℕ
too_low_text = package_text "install,40,2.0.0.9,0,0,," ""

abbrev dependent : Cluster
dependent = cluster 30 (version 1 0 0 0) (need 40 (version 2 0 1 0) ∷ [])

-- "letting a Work that would end win over a noted cancel": the last bytes, and a payload of 0 bytes
abbrev cancel_wins : List (Case Ending)
cancel_wins =
    from loaded
    calls
    (calls_to_transfer 1 install_text ++ process 1 gives done ∷ work 2 gives working ∷ cancel 1 gives done ∷ work 3 gives cancelled ∷ [])
    ends ending idle (cluster20 ∷ [])
    ∷ from loaded calls (calls_to_transfer 1 remove_text ++ process 1 gives done ∷ cancel 1 gives done ∷ work 0 gives cancelled ∷ [])
    ends ending idle (cluster20 ∷ [])
    ∷ []

-- "checking needs package by package, not in the whole staged table": the first package needs the second; the second brings too low a
-- version; a loaded cluster needs what is taken out
abbrev needs_of_all : List (Case Ending)
needs_of_all =
    from loaded
    calls
    (calls_to_transfer 1 dependent_text ++ calls_to_transfer 2 needed_text ++ calls_to_process 1 0 ++ calls_to_process 2 0 ++ calls_to_verifying)
    ends ending verifying (cluster20 ∷ dependent ∷ cluster 40 (version 2 0 1 0) [] ∷ [])
    ∷ from loaded
    calls
    (calls_to_transfer 1 dependent_text
    ++ calls_to_transfer 2 too_low_text
    ++ calls_to_process 1 0
    ++ calls_to_process 2 0
    ++ activate gives done
    ∷ report true gives missing_dependencies
    ∷ [])
    ends ending ready (cluster20 ∷ [])
    ∷ from loaded_dependent
    calls
    (calls_to_transfer 1 remove_text ++ calls_to_process 1 0 ++ activate gives done ∷ report true gives missing_dependencies ∷ [])
    ends ending ready (cluster 11 (version 1 0 0 3) (need 20 (version 1 0 0 0) ∷ []) ∷ cluster20 ∷ [])
    ∷ []

-- A.6, "the two together give MissingDependencies": looking at a bad report before the needs, or at those of the packages alone. A loaded
-- cluster that no package touches needs what the second package takes out; or what was not there, until the second brings it
abbrev two_failures : List (Case Ending)
two_failures =
    from loaded_dependent
    calls
    (calls_to_transfer 1 unrelated_text
    ++ calls_to_transfer 2 remove_text
    ++ calls_to_process 1 0
    ++ calls_to_process 2 0
    ++ activate gives done
    ∷ report false gives missing_dependencies
    ∷ [])
    ends ending ready (cluster 11 (version 1 0 0 3) (need 20 (version 1 0 0 0) ∷ []) ∷ cluster20 ∷ [])
    ∷ from loaded_unmet
    calls
    (calls_to_transfer 1 unrelated_text
    ++ calls_to_process 1 0
    ++ activate gives done
    ∷ report false gives missing_dependencies
    ∷ (calls_to_transfer 2 needed_text ++ calls_to_process 2 0 ++ activate gives done ∷ report false gives pre_activation_failed ∷ calls_to_verifying))
    ends ending verifying (dependent ∷ cluster 40 (version 2 0 1 0) [] ∷ cluster 50 (version 1 0 0 0) [] ∷ [])
    ∷ []

-- "going to Idle when the second package of a session fails": by its sum, by a cancel; where the first fails there is no session left
abbrev second_fails : List (Case Ending)
second_fails =
    from loaded calls (to_ready ++ calls_to_transfer 2 wrong_sum_text ++ process 2 gives done ∷ work 0 gives inconsistent ∷ [])
    ends ending ready (cluster20 ∷ [])
    ∷ from loaded
    calls
    (to_ready ++ calls_to_transfer 2 remove_text ++ process 2 gives done ∷ cancel 2 gives done ∷ work 0 gives cancelled ∷ [])
    ends ending ready (cluster20 ∷ [])
    ∷ from loaded calls (calls_to_transfer 1 wrong_sum_text ++ process 1 gives done ∷ work 0 gives inconsistent ∷ [])
    ends ending idle (cluster20 ∷ [])
    ∷ []

-- "forgetting that Rollback may start from Verifying"
abbrev from_verifying : List (Case Ending)
from_verifying =
    from loaded calls (to_verifying ++ rollback gives done ∷ [])
    ends ending (rolling_back verifying_rolls_back) (cluster20 ∷ cluster 30 (version 1 0 0 0) (need 20 (version 1 0 4 0) ∷ []) ∷ [])
    ∷ []

pub near_misses : HoldLooking ending_of (cancel_wins ++ needs_of_all ++ two_failures ++ second_fails ++ from_verifying)
unfolding computing
near_misses = refl

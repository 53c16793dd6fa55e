-- Every cell of the table of the old calls, by computation, in one table: nine states, with each place that RollingBack and CleaningUp come
-- from, and two that are not sound; the pairs where two answers apply; what counts as a call, what is a refusal, and mixed lists. Assumes
-- nothing.
use Prim.Native.Nat.{ℕ}
use mathlib.Core.Path.{◌≡◌, refl}
use mathlib.Core.Bool.{true, false}
use mathlib.Core.List.{List, [], ◌∷◌, map}
use mathlib.Core.Option.{none, some}
use lib.ListN.{replicate}
use Rattle.base.proofs.Tables.{◌gives◌, AllHold}
use Rattle.text.specs.declared.version.Version.{Version}
use Rattle.text.specs.Version.{version}
use Rattle.clusters.specs.Cluster.{cluster}
use Rattle.clusters.specs.Table.{Table}
use Rattle.actions.specs.Action.{install, update}
use Rattle.model.specs.State.{transferred, verifying_rolls_back, activated_rolls_back, ready_cleans_up, activated_cleans_up, rolled_back_cleans_up, idle, ready, processing, activating, verifying, activated, rolling_back, rolled_back, cleaning_up}
use Rattle.model.specs.Calls.{process, cancel, revert, activate, rollback, finish, report, done, pre_activation_failed, missing_dependencies, refused, accepted}
use Rattle.model.specs.Layers.{made_event, run_events, accepted_events, counted, events_go_on}
use Rattle.model.proofs.examples.Open.{computing}
use Rattle.model.proofs.examples.Transcript.{Start, start}
use Rattle.model.proofs.examples.Samples.{cluster20, updated20, dependent30, update_text, in_phase, idle_from, ready_with, each_start, unsound, unsound_idle, session_in}
use Rattle.four_state.specs.declared.call.OldCall.{OldCall}
use Rattle.four_state.specs.declared.call.OldCall.TheVariants.{Activate, Cancel, Revert, Rollback}
use Rattle.four_state.specs.OldCalls.{status_of, is_ready, further_answers, old_answers, old_step}
use Rattle.four_state.specs.MixedLists.{MixedCall, of_twelve, of_four, by_twelve, by_four, mixed_step, is_mixed_refusal, counts_as, mixed_run, MixedMade}

-- ---- the table

abbrev answer : Start → OldCall → ℕ
answer begins call = (old_step begins.state begins.store call).answer

-- status, Activate, Cancel, Revert, Rollback; 3 is the id of the package that is processing in the sample of Processing
abbrev cells : Start → List ℕ
cells begins =
    status_of begins.state begins.store ∷ answer begins Activate ∷ answer begins (Cancel 3) ∷ answer begins Revert ∷ answer begins Rollback ∷ []

-- Idle with a table, and a package Transferred
abbrev idle_start : Table → Start
idle_start table = idle_from table transferred (update_text ∷ [])

-- the beginning table meets its needs, the staged one does not; and the other way round
abbrev staged_unmet : Start
staged_unmet = ready_with (cluster20 ∷ []) (install dependent30 ∷ []) []

abbrev beginning_unmet : Start
beginning_unmet = ready_with (cluster20 ∷ dependent30 ∷ []) (update updated20 ∷ []) []

every-cell : AllHold cells
    -- not sound
    (unsound gives (255 ∷ 2 ∷ 1 ∷ 2 ∷ 2 ∷ [])
    ∷ unsound_idle gives (255 ∷ 2 ∷ 1 ∷ 2 ∷ 2 ∷ [])
    -- Idle
    ∷ idle_start (cluster20 ∷ []) gives (0 ∷ 1 ∷ 2 ∷ 1 ∷ 1 ∷ [])
    -- Ready
    ∷ session_in ready gives (1 ∷ 0 ∷ 2 ∷ 0 ∷ 1 ∷ [])
    ∷ beginning_unmet gives (1 ∷ 0 ∷ 2 ∷ 0 ∷ 1 ∷ [])
    ∷ staged_unmet gives (1 ∷ 4 ∷ 2 ∷ 0 ∷ 1 ∷ [])
    -- Processing
    ∷ each_start gives (2 ∷ 2 ∷ 0 ∷ 2 ∷ 2 ∷ [])
    -- Activating, RolledBack
    ∷ session_in activating gives (3 ∷ 2 ∷ 2 ∷ 2 ∷ 2 ∷ [])
    ∷ session_in rolled_back gives (3 ∷ 2 ∷ 2 ∷ 2 ∷ 2 ∷ [])
    -- Verifying, Activated
    ∷ session_in verifying gives (3 ∷ 2 ∷ 2 ∷ 2 ∷ 0 ∷ [])
    ∷ session_in activated gives (3 ∷ 2 ∷ 2 ∷ 2 ∷ 0 ∷ [])
    -- RollingBack, CleaningUp
    ∷ session_in (rolling_back verifying_rolls_back) gives (2 ∷ 2 ∷ 2 ∷ 2 ∷ 2 ∷ [])
    ∷ session_in (rolling_back activated_rolls_back) gives (2 ∷ 2 ∷ 2 ∷ 2 ∷ 2 ∷ [])
    ∷ session_in (cleaning_up ready_cleans_up) gives (2 ∷ 2 ∷ 2 ∷ 2 ∷ 2 ∷ [])
    ∷ session_in (cleaning_up activated_cleans_up) gives (2 ∷ 2 ∷ 2 ∷ 2 ∷ 2 ∷ [])
    ∷ session_in (cleaning_up rolled_back_cleans_up) gives (2 ∷ 2 ∷ 2 ∷ 2 ∷ 2 ∷ [])
    ∷ [])
unfolding computing old_step old_answers further_answers status_of
every-cell = refl

-- A.5, "Report and the old Activate of A.1 use the new meaning": the cluster that 30 needs is updated in its main version, and to the next
updates-of-20 : AllHold (λ (v : Version). answer (ready_with (cluster20 ∷ dependent30 ∷ []) (update (cluster 20 v []) ∷ []) []) Activate)
    (version 1 65535 65535 4294967295 gives 0 ∷ version 2 0 0 0 gives 4 ∷ [])
unfolding computing old_step old_answers further_answers
updates-of-20 = refl

-- "1 for any other refusal": packages that are not processing, and ids that no package has
other-ids : AllHold (λ id. answer each_start (Cancel id)) (3 gives 0 ∷ 0 gives 1 ∷ 1 gives 1 ∷ 2 gives 1 ∷ 4 gives 1 ∷ 5 gives 1 ∷ 6 gives 1 ∷ [])
unfolding computing old_step old_answers further_answers
other-ids = refl

-- "again is accepted": Cancel of the same id, a second time
again : (let o = old_step each_start.state each_start.store (Cancel 3) in answer (start o.state o.store) (Cancel 3)) ≡ 0
unfolding computing old_step old_answers further_answers
again = refl

-- "Ready" alone
is-ready : map is_ready
    (idle ∷ ready ∷ processing ∷ activating ∷ verifying ∷ activated ∷ rolling_back verifying_rolls_back ∷ rolled_back ∷ cleaning_up ready_cleans_up ∷ [])
    ≡ false ∷ true ∷ replicate 7 false
is-ready = refl

-- ---- where two answers apply

-- a wrong id outside Processing: 2, not 1; not sound with a wrong id: 1
wrong-id-elsewhere : map (λ (begins : Start). answer begins (Cancel 99))
    (idle_start (cluster20 ∷ []) ∷ session_in ready ∷ session_in activating ∷ session_in verifying ∷ session_in activated ∷ session_in (rolling_back verifying_rolls_back) ∷ session_in rolled_back ∷ session_in (cleaning_up ready_cleans_up) ∷ unsound ∷ unsound_idle ∷ [])
    ≡ 2 ∷ 2 ∷ 2 ∷ 2 ∷ 2 ∷ 2 ∷ 2 ∷ 2 ∷ 1 ∷ 1 ∷ []
unfolding computing old_step old_answers further_answers
wrong-id-elsewhere = refl

-- unmet needs outside Ready: 1 in Idle, else 2, not 4; not sound in Ready with unmet needs: 2
unmet-elsewhere : AllHold (λ (begins : Start). answer begins Activate)
    (idle_start (cluster20 ∷ dependent30 ∷ []) gives 1
    ∷ in_phase activating staged_unmet gives 2
    ∷ in_phase verifying staged_unmet gives 2
    ∷ in_phase activated staged_unmet gives 2
    ∷ in_phase (rolling_back verifying_rolls_back) staged_unmet gives 2
    ∷ in_phase rolled_back staged_unmet gives 2
    ∷ in_phase (cleaning_up ready_cleans_up) staged_unmet gives 2
    ∷ start staged_unmet.state [] gives 2
    ∷ [])
unfolding computing old_step old_answers further_answers
unmet-elsewhere = refl

-- ---- mixed lists

-- "any other answer as a refusal"
refusals-of-both : AllHold is_mixed_refusal
    (by_four 0 gives false
    ∷ by_four 1 gives true
    ∷ by_four 2 gives true
    ∷ by_four 3 gives true
    ∷ by_four 4 gives true
    ∷ by_twelve (refused 1) gives true
    ∷ by_twelve (accepted done) gives false
    ∷ [])
refusals-of-both = refl

-- "one of these four answered 0 counting there as the twelve's call of its name"
counting : AllHold (λ (m : MixedMade). counts_as m.event m.answer)
    (made_event (of_four Activate) (by_four 0) gives some (record { call = activate; reply = accepted done })
    ∷ made_event (of_four (Cancel 3)) (by_four 0) gives some (record { call = cancel 3; reply = accepted done })
    ∷ made_event (of_four Revert) (by_four 0) gives some (record { call = revert; reply = accepted done })
    ∷ made_event (of_four Rollback) (by_four 0) gives some (record { call = rollback; reply = accepted done })
    ∷ made_event (of_four Activate) (by_four 1) gives none
    ∷ made_event (of_four Activate) (by_four 4) gives none
    ∷ made_event (of_four Activate) (by_twelve (accepted done)) gives none
    ∷ made_event (of_twelve activate) (by_four 0) gives none
    ∷ made_event (of_twelve activate) (by_twelve (accepted done)) gives some (record { call = activate; reply = accepted done })
    ∷ made_event (of_twelve activate) (by_twelve (refused 3)) gives some (record { call = activate; reply = refused 3 })
    ∷ [])
unfolding counts_as
counting = refl

-- from Ready with an unmet need: refused calls of both kinds among others, and the twelve's Activate accepted where the old one was not
abbrev mixed : List MixedMade
mixed =
    made_event (of_four Activate) (by_four 4)
    ∷ made_event (of_twelve finish) (by_twelve (refused 3))
    ∷ made_event (of_twelve activate) (by_twelve (accepted done))
    ∷ made_event (of_four Rollback) (by_four 2)
    ∷ made_event (of_twelve (report false)) (by_twelve (accepted missing_dependencies))
    ∷ made_event (of_four Revert) (by_four 0)
    ∷ made_event (of_twelve (report true)) (by_twelve (accepted done))
    ∷ made_event (of_four Revert) (by_four 1)
    ∷ []

abbrev mixed_calls : List MixedCall
mixed_calls = map (λ (m : MixedMade). m.event) mixed

mixed-answers : (mixed_run staged_unmet.state staged_unmet.store mixed_calls).made ≡ mixed
unfolding computing old_step old_answers further_answers mixed_step run_events
mixed-answers = refl

-- without the refused ones of both kinds
mixed-accepted : accepted_events is_mixed_refusal mixed
    ≡ made_event (of_twelve activate) (by_twelve (accepted done))
    ∷ made_event (of_twelve (report false)) (by_twelve (accepted missing_dependencies))
    ∷ made_event (of_four Revert) (by_four 0)
    ∷ made_event (of_twelve (report true)) (by_twelve (accepted done))
    ∷ []
unfolding accepted_events
mixed-accepted = refl

-- the calls that they count as, refused ones of the twelve among them
mixed-counted : counted counts_as mixed
    ≡ record { call = finish; reply = refused 3 }
    ∷ record { call = activate; reply = accepted done }
    ∷ record { call = report false; reply = accepted missing_dependencies }
    ∷ record { call = revert; reply = accepted done }
    ∷ record { call = report true; reply = accepted done }
    ∷ []
unfolding counted counts_as
mixed-counted = refl

-- A.6 changes nothing after an old Activate that was begun: all needs are met in the staged table, whatever the beginning table lacks, so
-- a bad report is PreActivationFailed
abbrev begun_then_bad : List MixedMade
begun_then_bad =
    made_event (of_four Activate) (by_four 0)
    ∷ made_event (of_twelve (process 1)) (by_twelve (refused 3))
    ∷ made_event (of_twelve (report false)) (by_twelve (accepted pre_activation_failed))
    ∷ made_event (of_four Activate) (by_four 0)
    ∷ made_event (of_twelve (report true)) (by_twelve (accepted done))
    ∷ []

begun-then-bad : (mixed_run beginning_unmet.state beginning_unmet.store (map (λ (m : MixedMade). m.event) begun_then_bad)).made ≡ begun_then_bad
unfolding computing old_step old_answers further_answers mixed_step run_events
begun-then-bad = refl

-- the session goes on up to the Report that ends it, and no further
mixed-goes-on : AllHold (λ (calls : List MixedCall). events_go_on (λ s. s) mixed_step staged_unmet.state staged_unmet.store calls)
    ((of_four Activate ∷ of_twelve finish ∷ of_four Revert ∷ []) gives true
    ∷ (of_four Revert ∷ of_twelve (report true) ∷ []) gives false
    ∷ mixed_calls gives false
    ∷ [])
unfolding computing old_step old_answers further_answers mixed_step events_go_on
mixed-goes-on = refl

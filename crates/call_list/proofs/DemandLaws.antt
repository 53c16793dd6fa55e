-- Demand 3 of the code's own steps: every call, of the twelve or of the old four, on a State that has the room of its arrays is seen as the
-- model's, and leaves it its room. So from an accepted Load every list of calls, whatever its length, is seen as the model's run, of which
-- demand 3 holds. Assumes nothing.
use Prim.Native.Nat.{ℕ, ◌≤◌}
use mathlib.Core.Path.{◌≡◌, refl, ap, ◌∙◌}
use mathlib.Core.Bool.{false}
use mathlib.Core.List.{List}
use mathlib.Core.Option.{Option, none, some}
use native.Mathlib.Omega.{arith}
use lib.ListN.{length, length-append, length-map, length-replicate}
use Rattle.base.specs.Refusals.{first_refusal}
use Rattle.clusters.specs.Table.{Table, clusters_most}
use Rattle.clusters.specs.Struct.{struct_table}
use Rattle.clusters.proofs.Limits.{few-clusters}
use Rattle.cluster_list.specs.Read.{read_list}
use Rattle.cluster_list.proofs.Within.{read_list-within}
use Rattle.model.specs.State as model
use Rattle.model.specs.State.{Store}
use Rattle.model.specs.Calls.{Call, done, accepted}
use Rattle.model.specs.Sound.{packages_most}
use Rattle.model.specs.Step as step
use Rattle.model.specs.Load.{table_or_empty, is_bad_load}
use Rattle.model.specs.Layers.{EventOutcome, event_outcome, run_events, view_outcome_by, view_run_by}
use Rattle.model.proofs.soundness.LoadSound.{load-accepted, loads-says}
use Rattle.model.proofs.journal.Opened.{load-invariant}
use Rattle.model.proofs.journal.EventRuns.{view-run}
use Rattle.state.specs.declared.state.State.{State}
use Rattle.state.specs.View.{cleared_package, cleared_entry, entries_most, view_state}
use Rattle.state.specs.Outcome.{view_outcome, settled}
use Rattle.state.proofs.Outcomes.{view-called}
use Rattle.load.specs.Exact.{load}
use Rattle.load.proofs.Views.{promised}
use Rattle.manager.specs.Accepts.{accepts, exact_step, Shaped}
use Rattle.manager.proofs.CallLaws.{view-accepts}
use Rattle.manager.proofs.ShapeKept.{step-shaped}
use Rattle.four_state.specs.declared.call.OldCall.{OldCall}
use Rattle.four_state.specs.OldCalls.{twelve_of, old_answers}
use Rattle.four_state.specs.Exact.{exact_begun_unless, exact_old_step}
use Rattle.four_state.specs.MixedLists.{MixedCall, of_twelve, of_four, by_twelve, by_four, mixed_step, mixed_run}
use Rattle.four_state.proofs.MixedLists.{mixed-demand-from}
use Rattle.four_state.proofs.OldWays.{view-old}
use Rattle.call_list.specs.Run.{exact_mixed_step}
use Rattle.call_list.specs.DemandOfCalls.{loaded, model_loaded, DemandOfCalls}
use Rattle.call_list.proofs.WithoutRefused.{same-without-refused}

-- ---- one call

module _ (s : State) (store : Store) (shape : Shaped s) where
  seen_step : (call : Call) → view_outcome (exact_step s store call) ≡ step.step (view_state s) store call
  seen_step call = view-called s store call (accepts s store call) (view-accepts s store shape call)

  -- an old call, by its first answer: answered 0 it gives the state of the twelve's call, else the very state comes back
  old-shaped : (call : OldCall) (answer : Option ℕ) → Shaped (exact_begun_unless s store call answer).state
  unfolding exact_begun_unless
  old-shaped call none = step-shaped s store shape (twelve_of call)
  old-shaped call (some number) = shape

-- an old call's answer, state and store stand in a list of both kinds as they are
exact-four : (s : State) (store : Store) (call : OldCall)
    → (let o = exact_old_step s store call in exact_mixed_step s store (of_four call) ≡ event_outcome (by_four o.answer) o.state o.store)
unfolding exact_mixed_step
exact-four s store call = refl

seen-four : (s : State) (store : Store) (call : OldCall)
    → view_outcome_by view_state (exact_mixed_step s store (of_four call)) ≡ mixed_step (view_state s) store (of_four call)
unfolding mixed_step
seen-four s store call =
    ap (view_outcome_by view_state) (exact-four s store call)
    ∙ ap (λ (o : EventOutcome model.State ℕ). event_outcome (by_four o.answer) o.state o.store) (view-old s store call)

seen-mixed : (s : State) (store : Store) (call : MixedCall) → Shaped s
    → view_outcome_by view_state (exact_mixed_step s store call) ≡ mixed_step (view_state s) store call
unfolding exact_mixed_step mixed_step
seen-mixed s store (of_twelve call) shape =
    ap (λ (o : step.Outcome). event_outcome (by_twelve o.reply) o.state o.store) (seen_step s store shape call)
seen-mixed s store (of_four call) shape =
    seen-four s store call

mixed-shaped : (s : State) (store : Store) (call : MixedCall) → Shaped s → Shaped (exact_mixed_step s store call).state
unfolding exact_mixed_step
mixed-shaped s store (of_twelve call) shape = step-shaped s store shape call
mixed-shaped s store (of_four call) shape = old-shaped s store shape call (first_refusal (old_answers (view_state s) store call))

-- ---- a list of calls

seen-run : (s : State) (store : Store) (calls : List MixedCall) → Shaped s
    → view_run_by view_state (run_events exact_mixed_step s store calls) ≡ mixed_run (view_state s) store calls
seen-run = view-run view_state exact_mixed_step mixed_step Shaped mixed-shaped seen-mixed

-- ---- from an accepted Load

struct-room : (t : Table) → length t ≤ clusters_most → length (struct_table t).clusters ≡ clusters_most
unfolding struct_table
struct-room t few = simp (length-append, length-map, length-replicate) (omega arith)

module _ (given : State) (list : List ℕ) (first : ℕ) (lent : Store) where
  seen-load : view_outcome (loaded given list first lent) ≡ model_loaded given list first lent
  seen-load = (promised given list first lent (loaded given list first lent).answered (loaded given list first lent).store refl).0

  loaded-shaped : is_bad_load list first lent ≡ false → Shaped (loaded given list first lent).answered.state
  unfolding load settled first_refusal
  loaded-shaped good =
      let table = table_or_empty (read_list list) in
      let within = read_list-within list table (loads-says (view_state given) list first lent good).read in
      rw good
      (record {
        packages = length-replicate packages_most cleared_package;
        entries = length-replicate entries_most cleared_entry;
        clusters = struct-room table (few-clusters table within);
      })

  pub demand-of-calls : (model_loaded given list first lent).reply ≡ accepted done → (calls : List MixedCall) → DemandOfCalls given list first lent calls
  demand-of-calls is-accepted calls =
      let start = loaded given list first lent in
      let good = load-accepted (view_state given) list first lent is-accepted in
      record {
        is_accepted = is-accepted;
        seen_as =
            seen-run start.answered.state start.store calls (loaded-shaped good)
            ∙ ap (λ (o : step.Outcome). mixed_run o.state o.store calls) seen-load;
        demand3 = mixed-demand-from _ _ _ (load-invariant (view_state given) list first lent is-accepted) calls;
        without_refused = same-without-refused start.answered.state start.store calls;
      }

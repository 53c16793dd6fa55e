-- Load on the code's structs is the model's Load, and an accepted one gives a sound state. Assumes nothing.
use Prim.Native.Nat.{ℕ}
use mathlib.Core.Path.{◌≡◌, refl, sym, ap, ◌∙◌}
use mathlib.Core.Bool.{Bool, true, false, cond}
use mathlib.Core.List.{List}
use mathlib.Core.Option.{Option, none, some}
use native.Mathlib.Omega.{arith}
use lib.ListN.{length, replicate}
use Rattle.base.specs.Refusals.{first_refusal}
use Rattle.base.proofs.Tests.{bool_cases, none-some}
use Rattle.clusters.specs.Table.{Table}
use Rattle.clusters.specs.Struct.{struct_table}
use Rattle.clusters.proofs.Structs.{view_struct}
use Rattle.cluster_list.specs.Read.{read_list}
use Rattle.cluster_list.proofs.Within.{read_list-within}
use Rattle.model.specs.State.{Store}
use Rattle.model.specs.Load as model
use Rattle.model.specs.Load.{table_or_empty, is_bad_load}
use Rattle.model.specs.Calls as calls
use Rattle.model.specs.Step as step
use Rattle.model.specs.Sound.{sound}
use Rattle.model.proofs.soundness.LoadSound.{loads-says, load-refused, load-sound}
use Rattle.state.specs.declared.state.State.{State}
use Rattle.state.specs.declared.answer.Answer.{Answer}
use Rattle.state.specs.declared.answer.Answered.{Answered}
use Rattle.state.specs.View.{view_state}
use Rattle.state.specs.Exact.{loaded_state}
use Rattle.state.specs.Outcome.{outcome, view_outcome, SoundIfAccepted}
use Rattle.state.proofs.Views.{view-loaded-state}
use Rattle.state.proofs.Outcomes.{view-settled}
use Rattle.load.specs.Exact.{load}

-- the one refusal does not apply
not-refused : (bad : Bool) → cond {A = Option ℕ} bad (some 20) none ≡ none → bad ≡ false
not-refused true e = none-some (sym e)
not-refused false e = refl

module _ (s : State) (list : List ℕ) (first : ℕ) (store : Store) where
  view-accepted : is_bad_load list first store ≡ false
      → view_state (loaded_state (struct_table (table_or_empty (read_list list))) first) ≡ model.loaded_state (table_or_empty (read_list list)) first
  view-accepted good =
      let table = table_or_empty (read_list list) in
      let within = read_list-within list table (loads-says (view_state s) list first store good).read in
      view-loaded-state (struct_table table) first ∙ ap (λ (t : Table). model.loaded_state t first) (view_struct table within)

  view-load : view_outcome (load s list first store) ≡ model.load (view_state s) list first store
  unfolding load model.load first_refusal
  view-load =
      let zeros : Store = replicate (length store) 0 in
      view-settled s store (cond {A = Option ℕ} (is_bad_load list first store) (some 20) none) _ _
      λ e. ap (λ s'. step.outcome calls.done s' zeros) (view-accepted (not-refused (is_bad_load list first store) e))

  -- what the public call says, from the equation of its structs
  module _ (r : Answered Answer) (after : Store) (exact : outcome r after ≡ load s list first store) where
    meaning : view_outcome (outcome r after) ≡ model.load (view_state s) list first store
    meaning = ap view_outcome exact ∙ view-load

    accepted-sound : SoundIfAccepted (outcome r after)
    unfolding SoundIfAccepted
    accepted-sound answer e =
        let loaded = model.load (view_state s) list first store in
        let reply : loaded.reply ≡ calls.accepted answer = ap (λ (o : step.Outcome). o.reply) (sym meaning) ∙ e in
        ap (λ (o : step.Outcome). sound o.state o.store) meaning
        ∙ bool_cases (is_bad_load list first store)
        (λ bad. let refused = (load-refused (view_state s) list first store 20).1 (refl, bad) in
        absurd (let z : ◌≡◌ {A = ℕ} 0 1 = cc in omega arith))
        (load-sound (view_state s) list first store)

    pub promised : (view_outcome (outcome r after) ≡ model.load (view_state s) list first store)
        × ((outcome r after ≡ load s list first store) × SoundIfAccepted (outcome r after))
    promised = (meaning, (exact, accepted-sound))

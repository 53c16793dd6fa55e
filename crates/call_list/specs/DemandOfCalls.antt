-- Demand 3 of the code's own steps, for every list of the twelve calls and the old four without limit: of whoever makes the calls one by
-- one, by their `exact` clauses.
-- proofs/DemandLaws.antt has the theorem.
use Rattle.std.specs.Prelude.{ℕ, ◌≡◌, List}
use Rattle.cluster_list.specs.Read.{read_list}
use Rattle.model.specs.State.{Store}
use Rattle.model.specs.Calls.{done, accepted}
use Rattle.model.specs.Step as step
use Rattle.model.specs.Load as model
use Rattle.model.specs.Load.{table_or_empty}
use Rattle.model.specs.Journal.{opened}
use Rattle.model.specs.Layers.{EventRun, run_events, view_run_by, SameWithoutRefusedEvents}
use Rattle.state.specs.declared.state.State.{State}
use Rattle.state.specs.View.{view_state}
use Rattle.state.specs.Outcome.{Outcome}
use Rattle.load.specs.Exact.{load}
use Rattle.four_state.specs.MixedLists.{MixedCall, MixedReply, is_mixed_refusal, mixed_run, MixedDemand}
use Rattle.call_list.specs.Run.{exact_mixed_step}

module _ (given : State) (list : List ℕ) (first : ℕ) (lent : Store) where
  -- what Load gives, of what it was handed: a state, a list, a first id and a store
  abbrev pub loaded : Outcome
  loaded = load given list first lent

  abbrev pub model_loaded : step.Outcome
  model_loaded = model.load (view_state given) list first lent

  -- the calls made from there
  abbrev pub ran_from_load : List MixedCall → EventRun State MixedCall MixedReply
  ran_from_load calls = run_events exact_mixed_step loaded.answered.state loaded.store calls

  pub record DemandOfCalls (calls : List MixedCall) : Type 0 where
    -- "from an accepted Load"
    pub is_accepted : model_loaded.reply ≡ accepted done
    -- "each handed the state and store that the one before left, with nobody else writing them": each call's answer, the state and the
    -- store are those of the model's run
    pub seen_as : view_run_by view_state (ran_from_load calls) ≡ mixed_run model_loaded.state model_loaded.store calls
    -- "demand 3, the table property, holds for that list"
    pub demand3 : MixedDemand (opened (table_or_empty (read_list list))) model_loaded.state model_loaded.store calls
    -- "The list without its refused calls, from the same start, gives every other call the same answer and ends with equal state and
    -- store.": the state as a struct
    pub without_refused : SameWithoutRefusedEvents exact_mixed_step is_mixed_refusal loaded.answered.state loaded.store calls

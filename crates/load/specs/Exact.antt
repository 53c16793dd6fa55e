-- Load on the code's structs, unused places included. proofs/Views.antt has what it stands for.
use Rattle.std.specs.Prelude.{ℕ, List, [], ◌∷◌, length, replicate}
use Rattle.base.specs.Refusals.{refuse◌when◌, first_refusal}
use Rattle.clusters.specs.Struct.{struct_table}
use Rattle.cluster_list.specs.Read.{read_list}
use Rattle.model.specs.State.{Store}
use Rattle.model.specs.Step as step
use Rattle.model.specs.Load as model
use Rattle.model.specs.Load.{table_or_empty, is_bad_load}
use Rattle.state.specs.declared.state.State.{State}
use Rattle.state.specs.declared.answer.Answer.TheVariants.{Done}
use Rattle.state.specs.View.{view_state}
use Rattle.state.specs.Exact.{loaded_state}
use Rattle.state.specs.Outcome.{Outcome, outcome, answered, settled}

-- "It fills the store with 0 and gives the state Idle."; refused by 20 alone, it gives state and store back
unfoldable pub load : State → List ℕ → ℕ → Store → Outcome
load s list first store =
    settled s store
    (first_refusal ((refuse 20 when is_bad_load list first store) ∷ []))
    (outcome (answered Done (loaded_state (struct_table (table_or_empty (read_list list))) first)) (replicate (length store) 0))

-- the same in the model
abbrev pub model_load : State → List ℕ → ℕ → Store → step.Outcome
model_load s list first store = model.load (view_state s) list first store

-- Load and then a list of calls, as a program in C has it: by a number, with the state kept by nobody.
use Rattle.std.specs.Prelude.{ℕ, ◌≡◌, List}
use Rattle.std.proofs.Math.Option.{Option, some}
use Rattle.clusters.specs.Exact.{empty_table}
use Rattle.model.specs.State.{Store}
use Rattle.model.specs.Calls.{Reply}
use Rattle.state.specs.declared.state.State.{State}
use Rattle.state.specs.Exact.{loaded_state}
use Rattle.load.specs.Exact.{model_load}
use Rattle.four_state.specs.MixedLists.{MixedCall}
use Rattle.call_list.specs.WholeList.{ListOutcome}
use Rattle.call_list.specs.Loaded.{load_and_run_outcome, DemandMet}
use Rattle.c_interface.specs.Results.{result_number, load_reply_by}

-- the state that Load is handed: one that nothing was loaded into, whose next id is 0
abbrev pub nothing_loaded : State
nothing_loaded = loaded_state empty_table 0

-- what is given back: a number, the store and the slice of answers
pub record NumberedOutcome : Type 0 where
  pub number : ℕ
  pub store : Store
  pub answers : List ℕ

abbrev pub numbered_outcome : ℕ → Store → List ℕ → NumberedOutcome
numbered_outcome number store answers = record { number = number; store = store; answers = answers }

-- an outcome of a list of calls by its number; the state in it is left out
abbrev pub numbered : ListOutcome → NumberedOutcome
numbered o = numbered_outcome (result_number o.replied.answer) o.store o.answers

-- what `load_and_run` gives from there, by its number
abbrev pub load_and_run_numbered : List ℕ → ℕ → Store → List ℕ → Option (List MixedCall) → NumberedOutcome
load_and_run_numbered list first store answers given = numbered (load_and_run_outcome nothing_loaded list first store answers given)

-- where the number says what Load replied, the model's Load replies this
abbrev pub LoadRepliedBy : List ℕ → ℕ → Store → ℕ → Type 0
LoadRepliedBy list first store number =
    (reply : Reply) → load_reply_by number ≡ some reply → (model_load nothing_loaded list first store).reply ≡ reply

-- demand 3 of what was handed over and given back, with the state then, which is that of the run of these calls
pub record DemandMetThen (list : List ℕ) (first : ℕ) (lent : Store) (before : List ℕ) (calls : List MixedCall) (store : Store) (words : List ℕ) : Type 0 where
  pub state : State
  pub met : DemandMet nothing_loaded list first lent before calls state store words

-- of a list that was answered 0 demand 3 is met
abbrev pub DemandMetBy0 : List ℕ → ℕ → Store → List ℕ → Option (List MixedCall) → ℕ → Store → List ℕ → Type 0
DemandMetBy0 list first store answers given number store' answers' =
    (calls : List MixedCall) → given ≡ some calls → number ≡ 0 → DemandMetThen list first store answers calls store' answers'

-- Load and then a list of calls, and demand 3 of what it is handed and gives back.
use Rattle.std.specs.Prelude.{ℕ, ◌≡◌, List, []}
use Rattle.std.proofs.Math.Option.{Option, none, some}
use Rattle.cluster_list.specs.Read.{read_list}
use Rattle.model.specs.State.{Store}
use Rattle.model.specs.Calls.{Reply}
use Rattle.model.specs.Load.{table_or_empty, is_bad_load}
use Rattle.model.specs.Journal.{Journal, opened, journal}
use Rattle.model.specs.Invariant.{Invariant}
use Rattle.model.specs.Demand3.{AgreesWith}
use Rattle.model.specs.Layers.{EventRun, event_run, run_events, counted}
use Rattle.state.specs.declared.state.State.{State}
use Rattle.state.specs.View.{view_state}
use Rattle.state.specs.Outcome.{Outcome}
use Rattle.load.specs.Exact.{load, model_load}
use Rattle.four_state.specs.MixedLists.{MixedCall, MixedReply, counts_as, MixedMade}
use Rattle.call_list.specs.declared.ListReply.{ListReply}
use Rattle.call_list.specs.declared.ListReply.TheVariants.{Made}
use Rattle.state.specs.declared.answer.Answered.{Answered}
use Rattle.call_list.specs.Run.{exact_mixed_step}
use Rattle.call_list.specs.Answers.{answers_after}
use Rattle.call_list.specs.Replies.{load_reply, calls_made, list_reply, with_load, calls_given}
use Rattle.call_list.specs.WholeList.{ListOutcome, outcome_of}
use Rattle.call_list.specs.DemandOfCalls.{ran_from_load, DemandOfCalls}

-- what the first call is handed: what Load gave, and where no Load was made what was handed in
abbrev pub handed_on : Option Reply → State → Store → Outcome → EventRun State MixedCall MixedReply
handed_on none s store loaded = event_run [] s store
handed_on (some reply) s store loaded = event_run [] loaded.answered.state loaded.store

-- a malformed list, one with more calls than there is room for answers, and then a refused Load change nothing; else every call is made
-- from what Load gives
unfoldable pub load_and_run_outcome : State → List ℕ → ℕ → Store → List ℕ → Option (List MixedCall) → ListOutcome
load_and_run_outcome s list first store answers given =
    let reply = with_load (is_bad_load list first store) (list_reply given answers) in
    let start = handed_on (load_reply reply) s store (load s list first store) in
    outcome_of reply (run_events exact_mixed_step start.state start.store (calls_made reply (calls_given given))) answers

-- the book of calls made from an accepted Load of a list: of those that they count as. "Tables B and R start as the loaded one"
abbrev pub journal_of : List ℕ → List MixedMade → Journal
journal_of list made = journal (opened (table_or_empty (read_list list))) (counted counts_as made)

-- demand 3 of what Load was handed (a state, a list, a first id and a store), a slice for answers and a list of calls, and of the state,
-- store and answers that were given back
pub record DemandMet (given : State) (list : List ℕ) (first : ℕ) (lent : Store) (before : List ℕ) (calls : List MixedCall) (s : State) (store : Store) (words : List ℕ) : Type 0 where
  pub demand : DemandOfCalls given list first lent calls
  -- what is given back is the run of these calls, with each call's answer
  pub made : List MixedMade
  pub ran_as : ran_from_load given list first lent calls ≡ event_run made s store
  pub answered : words ≡ answers_after made before
  -- "After every call it is the one that document 01's book gives.": the book of these answers agrees with what is given back
  pub agrees : AgreesWith (journal_of list made) (view_state s) store
  -- so further calls may go on from it (clause `goes_on` of `call_list::run`)
  pub invariant : Invariant (journal_of list made) (view_state s) store

-- of a list that was made demand 3 is met
abbrev pub DemandMetIfMade : State → List ℕ → ℕ → Store → List ℕ → Option (List MixedCall) → Answered ListReply → Store → List ℕ → Type 0
DemandMetIfMade s list first store answers given r store' answers' =
    (calls : List MixedCall) → given ≡ some calls → r.answer ≡ Made
    → DemandMet s list first store answers calls r.state store' answers'

-- where Load was made, the reply for the list says what the model's Load replies
abbrev pub LoadReplied : State → List ℕ → ℕ → Store → ListReply → Type 0
LoadReplied s list first store whole =
    (reply : Reply) → load_reply whole ≡ some reply → (model_load s list first store).reply ≡ reply

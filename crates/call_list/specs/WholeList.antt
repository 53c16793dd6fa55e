-- What a list of calls in numbers and bytes gives, on the code's structs and in the model, and how it goes on from calls before it.
use Rattle.std.specs.Prelude.{ℕ, ◌*◌, ◌≡◌, List, length}
use Rattle.std.proofs.Math.Option.{Option, some}
use Rattle.model.specs.State as model
use Rattle.model.specs.State.{Store}
use Rattle.model.specs.Journal.{Journal, journal}
use Rattle.model.specs.Invariant.{Invariant}
use Rattle.model.specs.Layers.{EventRun, event_outcome, event_run, run_events, view_run_by, counted_in}
use Rattle.state.specs.declared.state.State.{State}
use Rattle.state.specs.View.{view_state}
use Rattle.state.specs.Outcome.{answered}
use Rattle.four_state.specs.MixedLists.{MixedCall, MixedReply, mixed_step, counts_as, MixedMade, mixed_run, MixedDemand}
use Rattle.call_rows.specs.declared.row.Row.{Row}
use Rattle.call_rows.specs.declared.answer_words.AnswerWords.{AnswerWords}
use Rattle.call_rows.specs.Row.{decoded_row}
use Rattle.call_rows.specs.Answers.{answer_words}
use Rattle.call_list.specs.declared.ListReply.{ListReply}
use Rattle.call_list.specs.declared.ListReply.TheVariants.{Made}
use Rattle.state.specs.declared.answer.Answered.{Answered}
use Rattle.call_list.specs.Run.{exact_mixed_step}
use Rattle.call_list.specs.Answers.{words_of, answers_after}
use Rattle.call_list.specs.Replies.{calls_made, list_reply, calls_given}

-- ---- on the structs

-- what is lent and given back: the reply for the whole list with the state, the store and the slice of answers
pub record ListOutcome : Type 0 where
  pub replied : Answered ListReply
  pub store : Store
  pub answers : List ℕ

abbrev pub list_outcome : Answered ListReply → Store → List ℕ → ListOutcome
list_outcome r store answers = record { replied = r; store = store; answers = answers }

-- that of the calls made: their run, and their answers in the first words of the slice
abbrev pub outcome_of : ListReply → EventRun State MixedCall MixedReply → List ℕ → ListOutcome
outcome_of reply r answers = list_outcome (answered reply r.state) r.store (answers_after r.made answers)

-- a malformed list, or one with more calls than there is room for answers, changes nothing; every other is made whole
unfoldable pub run_outcome : State → Store → List ℕ → Option (List MixedCall) → ListOutcome
run_outcome s store answers given =
    let reply = list_reply given answers in
    outcome_of reply (run_events exact_mixed_step s store (calls_made reply (calls_given given))) answers

-- ---- in the model

pub record ModelListOutcome : Type 0 where
  pub reply : ListReply
  pub state : model.State
  pub store : Store
  pub answers : List ℕ

abbrev pub view_list_outcome : ListOutcome → ModelListOutcome
view_list_outcome o = record { reply = o.replied.answer; state = view_state o.replied.state; store = o.store; answers = o.answers }

abbrev pub model_outcome_of : ListReply → EventRun model.State MixedCall MixedReply → List ℕ → ModelListOutcome
model_outcome_of reply r answers = record { reply = reply; state = r.state; store = r.store; answers = answers_after r.made answers }

unfoldable pub model_run_outcome : model.State → Store → List ℕ → Option (List MixedCall) → ModelListOutcome
model_run_outcome s store answers given =
    let reply = list_reply given answers in
    model_outcome_of reply (mixed_run s store (calls_made reply (calls_given given))) answers

-- ---- lists that go on

-- a list made behind other calls. Where the invariant ties the state and store before it to the journal j of those calls, demand 3 holds
-- of it with j, and the invariant ties the state and store given back to j with its calls noted: so a list may be handed in piece by piece
pub record GoesOn (j : Journal) (s : State) (store : Store) (calls : List MixedCall) (s' : State) (store' : Store) : Type 0 where
  pub demand3 : MixedDemand j (view_state s) store calls
  pub invariant : Invariant (journal j (counted_in mixed_step counts_as (view_state s) store calls)) (view_state s') store'

-- of a list that was made: it goes on from each journal that the invariant ties to the state and store before it
abbrev pub GoesOnIfMade : State → Store → Option (List MixedCall) → Answered ListReply → Store → Type 0
GoesOnIfMade s store given r store' =
    (calls : List MixedCall) → given ≡ some calls → r.answer ≡ Made → (j : Journal) → Invariant j (view_state s) store
    → GoesOn j s store calls r.state store'

-- ---- on the way

-- a call that was made, with what it gave: the words of its answer and the state, and the store then
pub record CallMade (s : State) (store : Store) (call : MixedCall) (r : Answered AnswerWords) (store' : Store) : Type 0 where
  pub answer : MixedReply
  pub words : r.answer ≡ answer_words answer
  pub meaning : event_outcome answer (view_state r.state) store' ≡ mixed_step (view_state s) store call
  pub exact : event_outcome answer r.state store' ≡ exact_mixed_step s store call

-- the call of a row was made; of a malformed row nothing is said
abbrev pub RowMade : State → Store → Row → List ℕ → Answered AnswerWords → Store → Type 0
RowMade s store row bytes r store' = (call : MixedCall) → decoded_row row bytes ≡ some call → CallMade s store call r store'

-- calls made one after the other from a state and a store, with what they left
pub record MadeFrom (s₀ : State) (store₀ : Store) (answers₀ : List ℕ) (calls : List MixedCall) (s : State) (store : Store) (answers : List ℕ) : Type 0 where
  pub made : List MixedMade
  pub exact : run_events exact_mixed_step s₀ store₀ calls ≡ event_run made s store
  pub meaning : view_run_by view_state (event_run made s store) ≡ mixed_run (view_state s₀) store₀ calls
  pub count : length (words_of made) ≡ 2 * length calls
  pub written : answers ≡ answers_after made answers₀

-- the calls of rows were made; of malformed rows nothing is said
abbrev pub RowsMade : State → Store → List ℕ → Option (List MixedCall) → State → Store → List ℕ → Type 0
RowsMade s₀ store₀ answers₀ given s store answers =
    (calls : List MixedCall) → given ≡ some calls → MadeFrom s₀ store₀ answers₀ calls s store answers

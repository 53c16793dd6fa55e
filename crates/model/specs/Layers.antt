-- Layers above the calls: lists of events of any type, "each handed the state and store that the one before left". An event counts as one
-- of the twelve calls or as none; so demand 3, which speaks of lists of calls, speaks of lists of events (`EventDemand` at the end).
use Rattle.std.specs.Prelude.{◌≡◌, Bool, true, false, not, cond, ◌&&◌, List, [], ◌∷◌, ◌++◌, map}
use Rattle.std.proofs.Math.Option.{Option, none, some}
use Rattle.model.specs.State.{is_idle, State, Store}
use Rattle.model.specs.Tables.{running}
use Rattle.model.specs.Step.{step}
use Rattle.model.specs.Run.{Made, run, calls_of}
use Rattle.model.specs.Journal.{Journal, journal}
use Rattle.model.specs.Demand3.{TableAtReturn, AgreesWith, Demand3}

-- ---- lists of events

-- what an event gives: its answer, and the state and store then. S is the layer's state, A what its events are answered
pub record EventOutcome (S A : Type 0) : Type 0 where
  pub answer : A
  pub state : S
  pub store : Store

abbrev pub event_outcome : {S A : Type 0} → A → S → Store → EventOutcome S A
event_outcome answer s store = record { answer = answer; state = s; store = store }

-- an event and what it was answered
pub record MadeEvent (E A : Type 0) : Type 0 where
  pub event : E
  pub answer : A

abbrev pub made_event : {E A : Type 0} → E → A → MadeEvent E A
made_event event answer = record { event = event; answer = answer }

-- the events with their answers, and the state and store at the end
pub record EventRun (S E A : Type 0) : Type 0 where
  pub made : List (MadeEvent E A)
  pub state : S
  pub store : Store

abbrev pub event_run : {S E A : Type 0} → List (MadeEvent E A) → S → Store → EventRun S E A
event_run made s store = record { made = made; state = s; store = store }

-- what an event gives, by the state, the store and the event
abbrev pub EventStep : Type 0 → Type 0 → Type 0 → Type 0
EventStep S E A = S → Store → E → EventOutcome S A

-- "each handed the state and store that the one before left, with nobody else writing them"
unfoldable pub run_events : {S E A : Type 0} → EventStep S E A → S → Store → List E → EventRun S E A
run_events gives s store [] = event_run [] s store
run_events gives s store (event ∷ events) =
    let o = gives s store event in
    let later = run_events gives o.state o.store events in
    event_run (made_event event o.answer ∷ later.made) later.state later.store

-- the events alone
abbrev pub events_of : {E A : Type 0} → List (MadeEvent E A) → List E
events_of made = map (λ m. m.event) made

-- what an event gives, and a run, with their states seen through a view, as the code's are seen as the model's
abbrev pub view_outcome_by : {S T A : Type 0} → (S → T) → EventOutcome S A → EventOutcome T A
view_outcome_by view o = event_outcome o.answer (view o.state) o.store

abbrev pub view_run_by : {S T E A : Type 0} → (S → T) → EventRun S E A → EventRun T E A
view_run_by view r = event_run r.made (view r.state) r.store

-- ---- refused events

-- those that were not refused, by which answers are refusals
unfoldable pub accepted_events : {E A : Type 0} → (A → Bool) → List (MadeEvent E A) → List (MadeEvent E A)
accepted_events is_refused [] = []
accepted_events is_refused (m ∷ made) = cond (is_refused m.answer) (accepted_events is_refused made) (m ∷ accepted_events is_refused made)

-- "After a refusal they hold what they held before, the state comes back equal": of every state, store and event
abbrev pub RefusedGivesBack : {S E A : Type 0} → EventStep S E A → (A → Bool) → Type 0
RefusedGivesBack gives is_refused =
    (s : _) (store : Store) (event : _) → is_refused (gives s store event).answer ≡ true
    → ((gives s store event).state ≡ s) × ((gives s store event).store ≡ store)

-- "The list without its refused calls, from the same start, gives every other call the same answer and ends with equal state and
-- store."
abbrev pub SameWithoutRefusedEvents : {S E A : Type 0} → EventStep S E A → (A → Bool) → S → Store → List E → Type 0
SameWithoutRefusedEvents gives is_refused s store events =
    let r = run_events gives s store events in
    run_events gives s store (events_of (accepted_events is_refused r.made)) ≡ event_run (accepted_events is_refused r.made) r.state r.store

-- ---- events that count as calls

-- the calls that events count as, with their replies: which call, by the event and its answer, "nothing of the state"
unfoldable pub counted : {E A : Type 0} → (E → A → Option Made) → List (MadeEvent E A) → List Made
counted counts_as [] = []
counted counts_as (m ∷ made) =
    elim (counts_as m.event m.answer) [ none ↦ counted counts_as made | some call ↦ call ∷ counted counts_as made ]

-- the calls that a list of events, made from a state and a store, counts as
abbrev pub counted_in : {S E A : Type 0} → EventStep S E A → (E → A → Option Made) → S → Store → List E → List Made
counted_in gives counts_as s store events = counted counts_as (run_events gives s store events).made

-- what an event gives, by what it counts as: no call, and the manager's state and the store come back; or a call, and it is what that call
-- does. `manager` shows the manager's state in the layer's
abbrev pub GivesAsCounted : {S A : Type 0} → (S → State) → S → Store → EventOutcome S A → Option Made → Type 0
GivesAsCounted manager s store o none = (manager o.state ≡ manager s) × (o.store ≡ store)
GivesAsCounted manager s store o (some m) =
    step (manager s) store m.call ≡ record { reply = m.reply; state = manager o.state; store = o.store }

module _ {S E A : Type 0} (manager : S → State) (gives : EventStep S E A) where
  -- a layer: of every state, store and event
  abbrev pub Layer : (E → A → Option Made) → Type 0
  Layer counts_as = (s : S) (store : Store) (event : E) → GivesAsCounted manager s store (gives s store event) (counts_as event (gives s store event).answer)

  -- no event of the list ends in Idle
  unfoldable pub events_go_on : S → Store → List E → Bool
  events_go_on s store [] = true
  events_go_on s store (event ∷ events) =
      let o = gives s store event in
      not (is_idle (manager o.state).phase) && events_go_on o.state o.store events

  -- the session that a list of events ends in: the list is `before` and `session`, `before` ends in Idle and no event of `session` does
  pub record LastEventSession (s : S) (store : Store) (events : List E) : Type 0 where
    pub before : List E
    pub session : List E
    pub joined : before ++ session ≡ events
    pub began : is_idle (manager (run_events gives s store before).state).phase ≡ true
    pub goes_on : events_go_on (run_events gives s store before).state (run_events gives s store before).store session ≡ true

  -- ---- demand 3 of a list of events, made from a state and store with a journal

  module _ (counts_as : E → A → Option Made) (is_refused : A → Bool) where
    pub record EventDemand (j : Journal) (s : S) (store : Store) (events : List E) : Type 0 where
      -- the calls that the first events of the list count as, made one after the other, have their replies and end with equal state and
      -- store
      pub counts_as_calls : (before rest : List E) → before ++ rest ≡ events
          → (let r = run_events gives s store before in
          let calls = counted_in gives counts_as s store before in
          run (manager s) store (calls_of calls) ≡ record { made = calls; state = manager r.state; store = r.store })
      -- so demand 3 holds of them
      pub demand3 : Demand3 j (manager s) store (calls_of (counted_in gives counts_as s store events))
      -- "After every call it is the one that document 01's book gives.": after the first events of the list, however many, and so after
      -- all of them
      pub after_each : (before rest : List E) → before ++ rest ≡ events
          → (let r = run_events gives s store before in
          AgreesWith (journal j (counted_in gives counts_as s store before)) (manager r.state) r.store)
      -- "at each return to Idle": an event that returns to Idle counts as a call, and the running table is what the return by that call
      -- demands
      pub at_return : (before : List E) (event : E) (rest : List E) → before ++ event ∷ rest ≡ events
          → (let r = run_events gives s store before in
          let o = gives r.state r.store event in
          is_idle (manager r.state).phase ≡ false → is_idle (manager o.state).phase ≡ true
          → (m : Made) × ((counts_as event o.answer ≡ some m)
          × TableAtReturn (journal j (counted_in gives counts_as s store before)) m.call (running (manager o.state))))
      -- "the table when that session began": where `before` ends in Idle and no event of `session` does, B is the running table after
      -- `before`
      pub session_began : (before session rest : List E) → (before ++ session) ++ rest ≡ events
          → (let r = run_events gives s store before in
          is_idle (manager r.state).phase ≡ true → events_go_on r.state r.store session ≡ true
          → (journal j (counted_in gives counts_as s store (before ++ session))).B ≡ running (manager r.state))
      -- "The list without its refused calls, from the same start, gives every other call the same answer and ends with equal state and
      -- store."
      pub without_refused : SameWithoutRefusedEvents gives is_refused s store events

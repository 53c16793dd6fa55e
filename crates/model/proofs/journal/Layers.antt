-- The law of layers: where each event counts as one call or gives the manager's state and the store back, a list of events runs as the calls
-- that it counts as, with their replies. One induction over any type of events; so demand 3 holds of every list of events. Assumes nothing.
use mathlib.Core.Path.{◌≡◌, refl, sym, ap, ap₂, subst, ◌∙◌}
use mathlib.Core.Bool.{Bool, true, false, not, ◌&&◌}
use mathlib.Core.List.{List, [], ◌∷◌, ◌++◌, map-append}
use mathlib.Core.Logic.{◌⊎◌, inl, inr}
use mathlib.Core.Option.{Option, none, some}
use Rattle.base.proofs.Tests.{clash, and_left, and_right, and_both}
use Rattle.model.specs.State.{is_idle, State, Store}
use Rattle.model.specs.Calls.{Call}
use Rattle.model.specs.Tables.{running}
use Rattle.model.specs.Step.{Outcome}
use Rattle.model.specs.Run.{Made, Run, run, calls_of}
use Rattle.model.specs.Journal.{Journal, journal}
use Rattle.model.specs.Invariant.{Invariant}
use Rattle.model.specs.Demand3.{TableAtReturn, session_goes_on}
use Rattle.model.specs.Layers.{EventOutcome, MadeEvent, EventRun, EventStep, run_events, counted, RefusedGivesBack, GivesAsCounted, Layer, events_go_on, LastEventSession, counted_in, EventDemand}
use Rattle.model.proofs.transitions.Refused.{onward}
use Rattle.model.proofs.journal.EventRuns.{events-append, without-refused-events}
use Rattle.model.proofs.journal.Demand3.{list-keeps, agrees, session-began, demand3-from}

counted-append : {E A : Type 0} (counts_as : E → A → Option Made) (made more : List (MadeEvent E A))
    → counted counts_as (made ++ more) ≡ counted counts_as made ++ counted counts_as more
unfolding counted
counted-append counts_as [] more = refl
counted-append counts_as (m ∷ made) more = go (counts_as m.event m.answer) _ _ _ (counted-append counts_as made more)
  where
    go : (c : Option Made) (all first rest : List Made) → all ≡ first ++ rest
        → (elim c [ none ↦ all | some call ↦ call ∷ all ]) ≡ (elim c [ none ↦ first | some call ↦ call ∷ first ]) ++ rest
    go none all first rest e = e
    go (some call) all first rest e = ap (λ (l : List Made). call ∷ l) e

module _ {S E A : Type 0} (manager : S → State) (gives : EventStep S E A) (counts_as : E → A → Option Made)
    (layer : Layer manager gives counts_as) where
  -- what a list of events leaves, as the run of the calls that it counts as
  abbrev as_run : S → Store → List E → Run
  as_run s store events =
      let r = run_events gives s store events in
      record { made = counted counts_as r.made; state = manager r.state; store = r.store }

  abbrev calls_in : S → Store → List E → List Call
  calls_in s store events = calls_of (counted_in gives counts_as s store events)

  pub layer-run : (s : S) (store : Store) (events : List E) → run (manager s) store (calls_in s store events) ≡ as_run s store events
  unfolding run run_events counted
  layer-run s store [] = refl
  layer-run s store (event ∷ events) =
      go (counts_as event o.answer) (layer s store event) (layer-run o.state o.store events)
    where
      o : EventOutcome S A
      o = gives s store event

      later : Run
      later = as_run (gives s store event).state (gives s store event).store events

      go : (c : Option Made) → GivesAsCounted manager s store (gives s store event) c
          → run (manager (gives s store event).state) (gives s store event).store (calls_of later.made) ≡ later
          → run (manager s) store (calls_of (elim c [ none ↦ later.made | some call ↦ call ∷ later.made ]))
          ≡ record { made = elim c [ none ↦ later.made | some call ↦ call ∷ later.made ]; state = later.state; store = later.store }
      go none same rest =
          ap₂ (λ (s' : State) (store' : Store). run s' store' (calls_of later.made)) (sym same.0) (sym same.1) ∙ rest
      go (some m) same rest =
          ap (λ (x : Outcome). onward m.call x (calls_of later.made)) same
          ∙ ap (λ (r : Run). record { made = m ∷ r.made; state = r.state; store = r.store }) rest

  -- where no event ends in Idle, none of the calls does
  calls-go-on : (s : S) (store : Store) (events : List E) → events_go_on manager gives s store events ≡ true
      → session_goes_on (manager s) store (calls_in s store events) ≡ true
  unfolding run_events counted events_go_on session_goes_on
  calls-go-on s store [] h = refl
  calls-go-on s store (event ∷ events) h =
      go (counts_as event o.answer) (layer s store event) (and_left (not (is_idle (manager o.state).phase)) _ h)
      (calls-go-on o.state o.store events (and_right (not (is_idle (manager o.state).phase)) _ h))
    where
      o : EventOutcome S A
      o = gives s store event

      later : List Made
      later = counted_in gives counts_as (gives s store event).state (gives s store event).store events

      go : (c : Option Made) → GivesAsCounted manager s store (gives s store event) c
          → not (is_idle (manager (gives s store event).state).phase) ≡ true
          → session_goes_on (manager (gives s store event).state) (gives s store event).store (calls_of later) ≡ true
          → session_goes_on (manager s) store (calls_of (elim c [ none ↦ later | some call ↦ call ∷ later ])) ≡ true
      go none same busy rest =
          ap₂ (λ (s' : State) (store' : Store). session_goes_on s' store' (calls_of later)) (sym same.0) (sym same.1) ∙ rest
      go (some m) same busy rest =
          ap (λ (x : Outcome). not (is_idle x.state.phase) && session_goes_on x.state x.store (calls_of later)) same
          ∙ and_both (not (is_idle (manager (gives s store event).state).phase)) _ busy rest

  counted-both : (s : S) (store : Store) (before more : List E)
      → (let r = run_events gives s store before in
      counted_in gives counts_as s store (before ++ more)
      ≡ counted_in gives counts_as s store before ++ counted_in gives counts_as r.state r.store more)
  counted-both s store before more =
      ap (λ (r : EventRun S E A). counted counts_as r.made) (events-append gives s store before more) ∙ counted-append counts_as _ _

  -- ---- from a state and a store that the invariant ties to a journal

  module _ (j : Journal) (s : S) (store : Store) (i : Invariant j (manager s) store) where
    -- a list of events keeps the invariant
    pub events-keep : (events : List E)
        → (let r = run_events gives s store events in
        Invariant (journal j (counted_in gives counts_as s store events)) (manager r.state) r.store)
    events-keep events =
        subst (λ (r : Run). Invariant (journal j r.made) r.state r.store) (layer-run s store events)
        (list-keeps j (manager s) store (calls_in s store events) i)

    event-returns : (before : List E) (event : E)
        → (let r = run_events gives s store before in
        let o = gives r.state r.store event in
        is_idle (manager r.state).phase ≡ false → is_idle (manager o.state).phase ≡ true
        → (m : Made) × ((counts_as event o.answer ≡ some m)
        × TableAtReturn (journal j (counted_in gives counts_as s store before)) m.call (running (manager o.state))))
    event-returns before event busy idle = go (counts_as event o.answer) refl (layer r.state r.store event)
      where
        r : EventRun S E A
        r = run_events gives s store before

        o : EventOutcome S A
        o = gives r.state r.store event

        go : (c : Option Made) → counts_as event o.answer ≡ c → GivesAsCounted manager r.state r.store o c
            → (m : Made) × ((counts_as event o.answer ≡ some m)
            × TableAtReturn (journal j (counted_in gives counts_as s store before)) m.call (running (manager o.state)))
        go none e same = clash idle (ap (λ (x : State). is_idle x.phase) same.0 ∙ busy)
        go (some m) e same = (
          m,
          (
            e,
            subst (λ (x : Outcome). is_idle x.state.phase ≡ true
                → TableAtReturn (journal j (counted_in gives counts_as s store before)) m.call (running x.state)) same
                ((agrees _ _ _ (events-keep before)).at_return m.call busy) idle,
          ),
        )

    events-began : (before session : List E)
        → (let r = run_events gives s store before in
        is_idle (manager r.state).phase ≡ true → events_go_on manager gives r.state r.store session ≡ true
        → (journal j (counted_in gives counts_as s store (before ++ session))).B ≡ running (manager r.state))
    events-began before session idle on =
        let r = run_events gives s store before in
        let calls = calls_in s store before in
        let more = calls_in r.state r.store session in
        let joined : calls ++ more ≡ calls_in s store (before ++ session) =
        sym (map-append (λ (m : Made). m.call) (counted_in gives counts_as s store before) (counted_in gives counts_as r.state r.store session)) ∙ ap calls_of (sym (counted-both s store before session)) in
        let all : (run (manager s) store (calls ++ more)).made ≡ counted_in gives counts_as s store (before ++ session) =
        ap (λ (l : List Call). (run (manager s) store l).made) joined ∙ ap (λ (x : Run). x.made) (layer-run s store (before ++ session)) in
        ap (λ (l : List Made). (journal j l).B) (sym all)
        ∙ subst (λ (x : Run). is_idle x.state.phase ≡ true → session_goes_on x.state x.store more ≡ true
        → (journal j (run (manager s) store (calls ++ more)).made).B ≡ running x.state) (layer-run s store before)
        (session-began j (manager s) store i calls more) idle (calls-go-on r.state r.store session on)

    -- demand 3 of every list of events whose refusals give back what they were handed
    pub event-demand : (is_refused : A → Bool) → RefusedGivesBack gives is_refused → (events : List E)
        → EventDemand manager gives counts_as is_refused j s store events
    event-demand is_refused back events =
        record {
          counts_as_calls = λ before rest e. layer-run s store before;
          demand3 = demand3-from j (manager s) store i (calls_in s store events);
          after_each = λ before rest e. agrees _ _ _ (events-keep before);
          at_return = λ before event rest e. event-returns before event;
          session_began = λ before session rest e. events-began before session;
          without_refused = without-refused-events gives is_refused back s store events;
        }

-- ---- from Idle every list of events ends in a session

module _ {S E A : Type 0} (manager : S → State) (gives : EventStep S E A) where
  -- no event of a list ends in Idle, or the list behind the last that does is a session
  idle-or-on : (s : S) (store : Store) (events : List E) → (events_go_on manager gives s store events ≡ true) ⊎ LastEventSession manager gives s store events
  unfolding run_events events_go_on
  idle-or-on s store [] = inl refl
  idle-or-on s store (event ∷ events) = go (is_idle (manager o.state).phase) refl (idle-or-on o.state o.store events)
    where
      o : EventOutcome S A
      o = gives s store event

      go : (b : Bool) → is_idle (manager (gives s store event).state).phase ≡ b
          → (events_go_on manager gives (gives s store event).state (gives s store event).store events ≡ true)
          ⊎ LastEventSession manager gives (gives s store event).state (gives s store event).store events
          → (not (is_idle (manager (gives s store event).state).phase) && events_go_on manager gives (gives s store event).state (gives s store event).store events ≡ true)
          ⊎ LastEventSession manager gives s store (event ∷ events)
      go true e (inl h) = inr (record { before = event ∷ []; session = events; joined = refl; began = e; goes_on = h })
      go false e (inl h) = inl (rw e h)
      go b e (inr l) =
          inr (record { before = event ∷ l.before; session = l.session; joined = ap (λ (rest : List E). event ∷ rest) l.joined; began = l.began; goes_on = l.goes_on })

  pub last-event-session : (s : S) (store : Store) (events : List E) → is_idle (manager s).phase ≡ true → LastEventSession manager gives s store events
  unfolding run_events
  last-event-session s store events e =
      elim (idle-or-on s store events) [
        | inl h ↦ record { before = []; session = events; joined = refl; began = e; goes_on = h }
        | inr l ↦ l
      ]

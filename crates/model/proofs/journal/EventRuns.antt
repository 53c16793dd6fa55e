-- Lists of events of any type: one list behind another, the list without its refused events, and a run seen through a view of its states.
-- Each by induction over the list. Assumes nothing.
use mathlib.Core.Path.{◌≡◌, refl, sym, ap, ap₂, ◌∙◌}
use mathlib.Core.Bool.{Bool, true, false, cond}
use mathlib.Core.List.{List, [], ◌∷◌, ◌++◌}
use Rattle.model.specs.State.{Store}
use Rattle.model.specs.Layers.{EventOutcome, MadeEvent, made_event, EventRun, event_run, EventStep, run_events, events_of, view_outcome_by, view_run_by, accepted_events, RefusedGivesBack, SameWithoutRefusedEvents}

-- ---- a list behind another

module _ {S E A : Type 0} (gives : EventStep S E A) where
  -- a run, and from its end another
  abbrev then_events : EventRun S E A → List E → EventRun S E A
  then_events r more =
      let later = run_events gives r.state r.store more in
      event_run (r.made ++ later.made) later.state later.store

  pub events-append : (s : S) (store : Store) (events more : List E)
      → run_events gives s store (events ++ more) ≡ then_events (run_events gives s store events) more
  unfolding run_events
  events-append s store [] more = refl
  events-append s store (event ∷ events) more =
      let o = gives s store event in
      ap (λ (r : EventRun S E A). event_run (made_event event o.answer ∷ r.made) r.state r.store)
      (events-append o.state o.store events more)

  -- a run, and then an event with its outcome
  abbrev pub then_made : EventRun S E A → E → EventOutcome S A → EventRun S E A
  then_made r event o = event_run (r.made ++ made_event event o.answer ∷ []) o.state o.store

  pub events-last : (s : S) (store : Store) (events : List E) (event : E)
      → run_events gives s store (events ++ event ∷ [])
      ≡ (let r = run_events gives s store events in then_made r event (gives r.state r.store event))
  unfolding run_events
  events-last s store events event = events-append s store events (event ∷ [])

-- ---- the list without its refused events

module _ {S E A : Type 0} (gives : EventStep S E A) (is_refused : A → Bool) (back : RefusedGivesBack gives is_refused) where
  pub without-refused-events : (s : S) (store : Store) (events : List E) → SameWithoutRefusedEvents gives is_refused s store events
  unfolding run_events accepted_events
  without-refused-events s store [] = refl
  without-refused-events s store (event ∷ events) =
      go (is_refused o.answer) refl (without-refused-events o.state o.store events)
    where
      o : EventOutcome S A
      o = gives s store event

      first : MadeEvent E A
      first = made_event event (gives s store event).answer

      later : EventRun S E A
      later = run_events gives (gives s store event).state (gives s store event).store events

      others : List (MadeEvent E A)
      others = accepted_events is_refused later.made

      go : (b : Bool) → is_refused (gives s store event).answer ≡ b
          → SameWithoutRefusedEvents gives is_refused (gives s store event).state (gives s store event).store events
          → run_events gives s store (events_of (cond b others (first ∷ others))) ≡ event_run (cond b others (first ∷ others)) later.state later.store
      go true e same =
          let given = back s store event e in
          ap₂ (λ (s' : S) (store' : Store). run_events gives s' store' (events_of others)) (sym given.0) (sym given.1) ∙ same
      go false e same = ap (λ (r : EventRun S E A). event_run (first ∷ r.made) r.state r.store) same

-- ---- a run seen through a view of its states

module _ {S T E A : Type 0} (view : S → T) (gives : EventStep S E A) (seen : EventStep T E A) where
  -- one event more is seen as the event more of what is seen
  pub view-last : (s : T) (store : Store) (events : List E) (event : E) (r : EventRun S E A) (o : EventOutcome S A)
      → view_run_by view r ≡ run_events seen s store events → view_outcome_by view o ≡ seen (view r.state) r.store event
      → view_run_by view (then_made gives r event o) ≡ run_events seen s store (events ++ event ∷ [])
  view-last s store events event r o before last =
      ap (λ (x : EventOutcome T A). then_made seen (view_run_by view r) event x) last
      ∙ ap (λ (x : EventRun T E A). then_made seen x event (seen x.state x.store event)) before
      ∙ sym (events-last seen s store events event)

  -- a run is seen as a run, where a property of the states that every event keeps makes each event be seen so
  module _ (P : S → Type 0) (keeps : (s : S) (store : Store) (event : E) → P s → P (gives s store event).state)
      (same : (s : S) (store : Store) (event : E) → P s → view_outcome_by view (gives s store event) ≡ seen (view s) store event) where
    pub view-run : (s : S) (store : Store) (events : List E) → P s → view_run_by view (run_events gives s store events) ≡ run_events seen (view s) store events
    unfolding run_events
    view-run s store [] p = refl
    view-run s store (event ∷ events) p =
        let o = gives s store event in
        ap (λ (r : EventRun T E A). event_run (made_event event o.answer ∷ r.made) r.state r.store)
        (view-run o.state o.store events (keeps s store event p))
        ∙ ap (λ (x : EventOutcome T A). let later = run_events seen x.state x.store events in event_run (made_event event x.answer ∷ later.made) later.state later.store)
        (same s store event p)

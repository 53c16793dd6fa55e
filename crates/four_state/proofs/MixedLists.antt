-- Mixed lists of the twelve calls and the old four: each call counts as one of the twelve or gives state and store back, so the law of
-- layers makes demand 3 hold of every mixed list; and a list of the twelve alone is what it was. Assumes nothing.
use Prim.Native.Nat.{ℕ}
use mathlib.Core.Path.{◌≡◌, refl, ap}
use mathlib.Core.Bool.{Bool, true, false, not, cond, ◌&&◌}
use mathlib.Core.List.{List, [], ◌∷◌, map}
use mathlib.Core.Option.{Option, none, some}
use lib.Dec.{eqb}
use Rattle.base.specs.Refusals.{first_refusal}
use Rattle.base.proofs.Tests.{clash}
use Rattle.cluster_list.specs.Read.{read_list}
use Rattle.model.specs.State.{is_idle, State, Store}
use Rattle.model.specs.Calls.{Call, done, Reply, refused, accepted}
use Rattle.model.specs.Step.{step}
use Rattle.model.specs.Load.{table_or_empty, load}
use Rattle.model.specs.Run.{Made, run, accepted_only}
use Rattle.model.specs.Demand3.{session_goes_on}
use Rattle.model.specs.Journal.{Journal, opened, journal}
use Rattle.model.specs.Invariant.{Invariant}
use Rattle.model.specs.Layers.{EventRun, made_event, event_run, run_events, accepted_events, RefusedGivesBack, counted, counted_in, GivesAsCounted, Layer, events_go_on}
use Rattle.model.proofs.transitions.Refused.{refused-changes-nothing}
use Rattle.model.proofs.journal.Layers.{events-keep, event-demand}
use Rattle.model.proofs.journal.Opened.{load-invariant}
use Rattle.four_state.specs.declared.call.OldCall.{OldCall}
use Rattle.four_state.specs.OldCalls.{twelve_of, old_answers, begun_unless, old_step}
use Rattle.four_state.specs.MixedLists.{MixedCall, of_twelve, of_four, MixedReply, by_twelve, by_four, mixed_step, is_mixed_refusal, counts_as, as_mixed, MixedMade, mixed_run, MixedDemand}
use Rattle.four_state.proofs.ExactlyWhen.{answers-not-0, begun-is-accepted, anything-but-0-changes-nothing}

abbrev same : State → State
same s = s

-- ---- one call

-- an old call by its first answer: answered 0 it is the twelve's call, else it gives state and store back
old-counts : (s : State) (store : Store) (call : OldCall) (answer : Option ℕ)
    → ((n : ℕ) → answer ≡ some n → eqb n 0 ≡ false) → (answer ≡ none → (step s store (twelve_of call)).reply ≡ accepted done)
    → (let x = step s store (twelve_of call) in
    let o = begun_unless s store answer x.state x.store in
    GivesAsCounted same s store (record { answer = by_four o.answer; state = o.state; store = o.store }) (counts_as (of_four call) (by_four o.answer)))
unfolding counts_as
old-counts s store call none nonzero is = ap (λ (r : Reply). record { reply = r; state = (step s store (twelve_of call)).state; store = (step s store (twelve_of call)).store }) (is refl)
old-counts s store call (some n) nonzero is = rw (nonzero n refl) (refl, refl)

pub mixed-layer : Layer same mixed_step counts_as
unfolding mixed_step counts_as old_step
mixed-layer s store (of_twelve call) = refl
mixed-layer s store (of_four call) =
    old-counts s store call (first_refusal (old_answers s store call)) (answers-not-0 s store call) (begun-is-accepted s store call)

-- a refused call of either kind gives state and store back
pub mixed-gives-back : RefusedGivesBack mixed_step is_mixed_refusal
unfolding mixed_step
mixed-gives-back s store (of_twelve call) refusal = go (step s store call).reply refl refusal
  where
    go : (reply : Reply) → (step s store call).reply ≡ reply → is_mixed_refusal (by_twelve reply) ≡ true
        → ((step s store call).state ≡ s) × ((step s store call).store ≡ store)
    go (refused number) e is = refused-changes-nothing s store call number e
    go (accepted answer) e is = clash is refl
mixed-gives-back s store (of_four call) refusal =
    anything-but-0-changes-nothing s store call λ z. clash refusal (ap (λ (n : ℕ). is_mixed_refusal (by_four n)) z)

-- an old call is a refusal exactly when it counts as no call, whatever its answer
pub refusal-counts-as-none : (call : OldCall) (number : ℕ)
    → is_mixed_refusal (by_four number) ≡ (elim (counts_as (of_four call) (by_four number)) [ none ↦ true | some m ↦ false ])
unfolding counts_as
refusal-counts-as-none call number = go (eqb number 0)
  where
    go : (b : Bool) → not b ≡ (elim (cond {A = Option Made} b (some (record { call = twelve_of call; reply = accepted done })) none) [ none ↦ true | some m ↦ false ])
    go true = refl
    go false = refl

-- ---- lists

-- from a state and a store that the invariant ties to a journal
module _ (j : Journal) (s : State) (store : Store) (i : Invariant j s store) where
  pub mixed-keeps : (calls : List MixedCall)
      → Invariant (journal j (counted_in mixed_step counts_as s store calls)) (mixed_run s store calls).state (mixed_run s store calls).store
  mixed-keeps calls = events-keep same mixed_step counts_as mixed-layer j s store i calls

  pub mixed-demand-from : (calls : List MixedCall) → MixedDemand j s store calls
  mixed-demand-from calls = event-demand same mixed_step counts_as mixed-layer j s store i is_mixed_refusal mixed-gives-back calls

-- "and demand 3, the table property, holds for that list": "from an accepted Load", for every list
pub demand3-of-mixed-lists : (given : State) (list : List ℕ) (first : ℕ) (lent : Store) → (load given list first lent).reply ≡ accepted done
    → (calls : List MixedCall) → MixedDemand (opened (table_or_empty (read_list list))) (load given list first lent).state (load given list first lent).store calls
demand3-of-mixed-lists given list first lent is-accepted calls =
    mixed-demand-from _ _ _ (load-invariant given list first lent is-accepted) calls

-- ---- lists of the twelve alone

-- they run as they did, each call with its reply
pub twelve-alone : (s : State) (store : Store) (calls : List Call)
    → (let r = run s store calls in mixed_run s store (map of_twelve calls) ≡ event_run (map as_mixed r.made) r.state r.store)
unfolding run run_events mixed_step
twelve-alone s store [] = refl
twelve-alone s store (call ∷ calls) =
    let o = step s store call in
    ap (λ (r : EventRun State MixedCall MixedReply). event_run (made_event (of_twelve call) (by_twelve o.reply) ∷ r.made) r.state r.store)
    (twelve-alone o.state o.store calls)

-- and count as themselves
pub twelve-count : (made : List Made) → counted counts_as (map as_mixed made) ≡ made
unfolding counted counts_as
twelve-count [] = refl
twelve-count (m ∷ made) = ap (λ (l : List Made). m ∷ l) (twelve-count made)

-- what is refused, and whether the session goes on, is what it was
pub twelve-accepted : (made : List Made) → accepted_events is_mixed_refusal (map as_mixed made) ≡ map as_mixed (accepted_only made)
unfolding accepted_events accepted_only
twelve-accepted [] = refl
twelve-accepted (m ∷ made) = go m.reply (twelve-accepted made)
  where
    go : (reply : Reply) → accepted_events is_mixed_refusal (map as_mixed made) ≡ map as_mixed (accepted_only made)
        → cond (is_mixed_refusal (by_twelve reply)) (accepted_events is_mixed_refusal (map as_mixed made)) (as_mixed m ∷ accepted_events is_mixed_refusal (map as_mixed made))
        ≡ map as_mixed (elim reply [ refused number ↦ accepted_only made | accepted answer ↦ m ∷ accepted_only made ])
    go (refused number) same-others = same-others
    go (accepted answer) same-others = ap (λ (l : List MixedMade). as_mixed m ∷ l) same-others

pub twelve-go-on : (s : State) (store : Store) (calls : List Call) → events_go_on same mixed_step s store (map of_twelve calls) ≡ session_goes_on s store calls
unfolding events_go_on session_goes_on mixed_step
twelve-go-on s store [] = refl
twelve-go-on s store (call ∷ calls) =
    let o = step s store call in
    ap (λ (on : Bool). not (is_idle o.state.phase) && on) (twelve-go-on o.state o.store calls)

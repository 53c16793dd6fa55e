-- Lists of calls: one call more at the end, where a call stands, and the one induction by which what every call keeps holds after every
-- list. Assumes nothing.
use mathlib.Core.Path.{◌≡◌, refl, ap, ◌∙◌}
use mathlib.Core.List.Memᴰ
use mathlib.Core.List.{List, [], ◌∷◌, ◌++◌, Memᴰ}
use mathlib.Core.Logic.{inl, inr}
use Rattle.model.specs.State.{State, Store}
use Rattle.model.specs.Calls.{Call}
use Rattle.model.specs.Step.{Outcome, step}
use Rattle.model.specs.Run.{Made, Run, run}
use Rattle.model.specs.Journal.{Journal, noted, journal}

-- ---- a list behind another

-- a run, and from its end another
abbrev and_then : Run → List Call → Run
and_then r more =
    let later = run r.state r.store more in
    record { made = r.made ++ later.made; state = later.state; store = later.store }

pub run-append : (s : State) (store : Store) (calls more : List Call) → run s store (calls ++ more) ≡ and_then (run s store calls) more
unfolding run
run-append s store [] more = refl
run-append s store (call ∷ calls) more =
    let o = step s store call in
    ap (λ (r : Run). record { made = record { call = call; reply = o.reply } ∷ r.made; state = r.state; store = r.store })
    (run-append o.state o.store calls more)

pub journal-append : (j : Journal) (made more : List Made) → journal j (made ++ more) ≡ journal (journal j made) more
unfolding journal
journal-append j [] more = refl
journal-append j (m ∷ made) more = journal-append (noted m j) made more

-- one call behind a list
module _ (s : State) (store : Store) (calls : List Call) (call : Call) where
  abbrev before : Run
  before = run s store calls

  abbrev last : Outcome
  last = step before.state before.store call

  pub run-last : run s store (calls ++ call ∷ [])
      ≡ record { made = before.made ++ record { call = call; reply = last.reply } ∷ []; state = last.state; store = last.store }
  unfolding run
  run-last = run-append s store calls (call ∷ [])

  pub state-last : (run s store (calls ++ call ∷ [])).state ≡ last.state
  state-last = ap (λ (r : Run). r.state) run-last

  pub store-last : (run s store (calls ++ call ∷ [])).store ≡ last.store
  store-last = ap (λ (r : Run). r.store) run-last

  pub journal-last : (j : Journal) → journal j (run s store (calls ++ call ∷ [])).made
      ≡ noted (record { call = call; reply = last.reply }) (journal j before.made)
  unfolding journal
  journal-last j =
      ap (λ (r : Run). journal j r.made) run-last ∙ journal-append j before.made (record { call = call; reply = last.reply } ∷ [])

-- ---- a call of a list

-- where a call with its reply stands: the calls before it, and the rest behind it
pub record StandsAt (s : State) (store : Store) (calls : List Call) (m : Made) : Type 0 where
  pub before : List Call
  pub call : Call
  pub rest : List Call
  pub split : before ++ call ∷ rest ≡ calls
  pub reply : m.reply ≡ (step (run s store before).state (run s store before).store call).reply

pub stands_at : (calls : List Call) (s : State) (store : Store) (m : Made) → Memᴰ m (run s store calls).made → StandsAt s store calls m
unfolding run
stands_at [] s store m at = absurd (Memᴰ.not-nil at)
stands_at (call ∷ calls) s store m at =
    elim (Memᴰ.cases_cons at) [
      | inl same ↦ record { before = []; call = call; rest = calls; split = refl; reply = ap (λ (x : Made). x.reply) same }
      | inr later ↦ (let there = stands_at calls _ _ m later in
          record {
            before = call ∷ there.before;
            call = there.call;
            rest = there.rest;
            split = ap (λ (l : List Call). call ∷ l) there.split;
            reply = there.reply;
          })
    ]

-- ---- what every call keeps

module _ (P : Journal → State → Store → Type 0)
    (keeps : (j : Journal) (s : State) (store : Store) (call : Call) → P j s store
    → P (noted (record { call = call; reply = (step s store call).reply }) j) (step s store call).state (step s store call).store) where
  pub always : (calls : List Call) (j : Journal) (s : State) (store : Store) → P j s store
      → P (journal j (run s store calls).made) (run s store calls).state (run s store calls).store
  unfolding run journal
  always [] j s store h = h
  always (call ∷ calls) j s store h = always calls _ _ _ (keeps j s store call h)

-- A refused call changes nothing, and a list without its refused calls gives the others the same answers and ends with equal state
-- and store. Assumes nothing.
use mathlib.Core.Path.{◌≡◌, refl, sym, ap, ◌∙◌}
use mathlib.Core.List.{List, [], ◌∷◌}
use mathlib.Core.Logic.{◌↔◌}
use mathlib.Core.Option.{Option, none, some}
use Prim.Native.Nat.{ℕ}
use native.Mathlib.Omega.{arith}
use Rattle.base.specs.Refusals.{first_refusal}
use Rattle.model.specs.State.{State, Store}
use Rattle.model.specs.Calls.{Call, Answer, Reply, refused, accepted}
use Rattle.model.specs.Step.{Outcome, refusals, cleaned_up, act, unless_refused, step}
use Rattle.model.specs.Run.{Made, Run, run, accepted_only, calls_of}
use Rattle.model.specs.Accepted.{Accepted, starts, puts_block, exits, deletes, processes, works_on, leaves, completes, cancels, moves, ends}
use Rattle.model.proofs.transitions.Accepting.{accepted-is}

-- ---- one call

-- to show something of a call's outcome, show it where the call is refused and where it is accepted
pub step-cases : (P : Outcome → Type 0) (s : State) (store : Store) (call : Call)
    → ((number : ℕ) → first_refusal (refusals s store call) ≡ some number → P (record { reply = refused number; state = s; store = store }))
    → (first_refusal (refusals s store call) ≡ none → P (act s store call)) → P (step s store call)
unfolding step
step-cases P s store call refuses accepts = go (first_refusal (refusals s store call)) refl
  where
    go : (r : Option ℕ) → first_refusal (refusals s store call) ≡ r → P (unless_refused s store r (act s store call))
    go none e = accepts e
    go (some number) e = refuses number e

-- an accepted call has an answer
answered : {s : State} {store : Store} {call : Call} {o : Outcome} → Accepted s store call o
    → (answer : Answer) × (o.reply ≡ accepted answer)
unfolding cleaned_up
answered (starts size h7 h16 h17 h18) = (_, refl)
answered (puts_block id counter block p e h5 h6 h7 h) = (_, refl)
answered (exits id p m e h5 h8 h9) = (_, refl)
answered (deletes id p e h5 h) = (_, refl)
answered (processes id p m rest e h5 h9 h) = (_, refl)
answered (works_on w n c l) = (_, refl)
answered (leaves w n f) = (_, refl)
answered (completes w n c l e) = (_, refl)
answered (cancels w id e) = (_, refl)
answered (moves g) = (_, refl)
answered (ends g) = (_, refl)

pub not-refused : {s : State} {store : Store} {call : Call} {o : Outcome} (number : ℕ) → Accepted s store call o
    → o.reply ≡ refused number → ⊥
not-refused number a e = let r = answered a in let z : ◌≡◌ {A = ℕ} 0 1 = cc (r.1, e) in omega arith

-- "After a refusal they hold what they held before, the state comes back equal"
pub refused-changes-nothing : (s : State) (store : Store) (call : Call) (number : ℕ) → (step s store call).reply ≡ refused number
    → ((step s store call).state ≡ s) × ((step s store call).store ≡ store)
refused-changes-nothing s store call number =
    step-cases (λ o. o.reply ≡ refused number → (o.state ≡ s) × (o.store ≡ store)) s store call (λ n r e. (refl, refl))
    λ a e. absurd (not-refused number (accepted-is s store call a) e)

-- "Checked in this order": a call is refused with a number exactly when that is the number of the first refusal that applies
pub refused-by-the-first : (s : State) (store : Store) (call : Call) (number : ℕ)
    → ((step s store call).reply ≡ refused number) ↔ (first_refusal (refusals s store call) ≡ some number)
unfolding step
refused-by-the-first s store call number = (
  step-cases (λ o. o.reply ≡ refused number → first_refusal (refusals s store call) ≡ some number) s store call
      (λ n r e. let same : n ≡ number = cc in r ∙ ap some same)
      λ a e. absurd (not-refused number (accepted-is s store call a) e),
  λ e. ap (λ (r : Option ℕ). (unless_refused s store r (act s store call)).reply) e,
)

-- ---- a list of calls

-- a run whose first call had the outcome o
abbrev pub onward : Call → Outcome → List Call → Run
onward call o calls =
    let later = run o.state o.store calls in
    record { made = record { call = call; reply = o.reply } ∷ later.made; state = later.state; store = later.store }

abbrev pub accepted_run : Run → Run
accepted_run r = record { made = accepted_only r.made; state = r.state; store = r.store }

-- "The list without its refused calls, from the same start, gives every other call the same answer and ends with equal state and
-- store."
abbrev pub SameWithoutRefused : State → Store → List Call → Type 0
SameWithoutRefused s store calls = run s store (calls_of (accepted_only (run s store calls).made)) ≡ accepted_run (run s store calls)

kept-accepted : (m : Made) (made : List Made) (answer : Answer) → m.reply ≡ accepted answer
    → accepted_only (m ∷ made) ≡ m ∷ accepted_only made
unfolding accepted_only
kept-accepted m made answer e = go m.reply e
  where
    go : (r : Reply) → r ≡ accepted answer
        → (elim r as (λ y. List Made) [ refused number ↦ accepted_only made | accepted a ↦ m ∷ accepted_only made ]) ≡ m ∷ accepted_only made
    go (refused number) e = let z : ◌≡◌ {A = ℕ} 0 1 = cc in absurd (omega arith)
    go (accepted a) e = refl

module _ (s : State) (store : Store) (call : Call) (calls : List Call) where
  -- the list behind a first call that was accepted
  behind-accepted : (o : Outcome) (answer : Answer) → step s store call ≡ o → o.reply ≡ accepted answer
      → SameWithoutRefused o.state o.store calls
      → run s store (calls_of (accepted_only (onward call o calls).made)) ≡ accepted_run (onward call o calls)
  unfolding run
  behind-accepted o answer e a ih =
      let later = run o.state o.store calls in
      let first : Made = record { call = call; reply = o.reply } in
      let same = kept-accepted first later.made answer a in
      ap (λ (l : List Made). run s store (calls_of l)) same
      ∙ ap (λ (x : Outcome). onward call x (calls_of (accepted_only later.made))) e
      ∙ ap (λ (r : Run). record { made = first ∷ r.made; state = r.state; store = r.store }) ih
      ∙ ap (λ (l : List Made). record { made = l; state = later.state; store = later.store }) (sym same)

  without-first : ((s' : State) (store' : Store) → SameWithoutRefused s' store' calls)
      → run s store (calls_of (accepted_only (onward call (step s store call) calls).made)) ≡ accepted_run (onward call (step s store call) calls)
  without-first ih =
      step-cases
      (λ o. step s store call ≡ o → run s store (calls_of (accepted_only (onward call o calls).made)) ≡ accepted_run (onward call o calls))
      s store call (λ number r e. unfold accepted_only in ih s store)
      (λ a e. let r = answered (accepted-is s store call a) in behind-accepted (act s store call) r.0 e r.1 (ih _ _)) refl

pub without-refused : (s : State) (store : Store) (calls : List Call) → SameWithoutRefused s store calls
unfolding run accepted_only
without-refused s store [] = refl
without-refused s store (call ∷ calls) = without-first s store call calls λ s' store'. without-refused s' store' calls

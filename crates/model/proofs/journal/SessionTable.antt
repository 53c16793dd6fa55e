-- While a session goes on, its beginning table stays: it is the running table when the session began; and from Idle every list
-- of calls ends in a session. By induction over the list. Assumes nothing.
use mathlib.Core.Path.{◌≡◌, refl, ap, ◌∙◌}
use mathlib.Core.Bool.{Bool, true, false, not, ◌&&◌}
use mathlib.Core.List.{List, [], ◌∷◌, ◌++◌}
use mathlib.Core.Logic.{◌⊎◌, inl, inr}
use borrow.Author.Tests.{not-true}
use Rattle.base.proofs.Tests.{and_left, and_right}
use Rattle.model.specs.State.{is_idle, State, Store}
use Rattle.model.specs.Calls.{Call}
use Rattle.model.specs.Step.{Outcome, step}
use Rattle.model.specs.Run.{Run, run}
use Rattle.model.specs.Demand3.{session_goes_on, LastSession}
use Rattle.model.proofs.transitions.Accepting.{accepted-is}
use Rattle.model.proofs.transitions.Refused.{step-cases}
use Rattle.model.proofs.journal.Lists.{run-append}
use Rattle.model.proofs.journal.Returns.{beginning-stays}

step-beginning : (s : State) (store : Store) (call : Call) → is_idle (step s store call).state.phase ≡ false
    → (step s store call).state.session.beginning ≡ s.session.beginning
step-beginning s store call =
    step-cases (λ o. is_idle o.state.phase ≡ false → o.state.session.beginning ≡ s.session.beginning) s store call
    (λ number r e. refl)
    λ a e. beginning-stays (accepted-is s store call a) (inr e)

pub list-beginning : (s : State) (store : Store) (calls : List Call) → session_goes_on s store calls ≡ true
    → (run s store calls).state.session.beginning ≡ s.session.beginning
unfolding run session_goes_on
list-beginning s store [] h = refl
list-beginning s store (call ∷ calls) h =
    let o = step s store call in
    list-beginning o.state o.store calls (and_right (not (is_idle o.state.phase)) _ h)
    ∙ step-beginning s store call (not-true _ (and_left _ _ h))

pub session-beginning : (s : State) (store : Store) (calls session : List Call)
    → session_goes_on (run s store calls).state (run s store calls).store session ≡ true
    → (run s store (calls ++ session)).state.session.beginning ≡ (run s store calls).state.session.beginning
session-beginning s store calls session h =
    ap (λ (r : Run). r.state.session.beginning) (run-append s store calls session)
    ∙ list-beginning (run s store calls).state (run s store calls).store session h

-- ---- from Idle every list of calls ends in a session

-- no call of a list ends in Idle, or the list behind the last that does is a session
idle-or-on : (s : State) (store : Store) (calls : List Call) → (session_goes_on s store calls ≡ true) ⊎ LastSession s store calls
unfolding run session_goes_on
idle-or-on s store [] = inl refl
idle-or-on s store (call ∷ calls) = go (is_idle o.state.phase) refl (idle-or-on o.state o.store calls)
  where
    o : Outcome
    o = step s store call

    go : (b : Bool) → is_idle (step s store call).state.phase ≡ b
        → (session_goes_on (step s store call).state (step s store call).store calls ≡ true)
        ⊎ LastSession (step s store call).state (step s store call).store calls
        → (not (is_idle (step s store call).state.phase) && session_goes_on (step s store call).state (step s store call).store calls ≡ true)
        ⊎ LastSession s store (call ∷ calls)
    go true e (inl h) = inr (record { before = call ∷ []; session = calls; joined = refl; began = e; goes_on = h })
    go false e (inl h) = inl (rw e h)
    go b e (inr l) =
        inr (record { before = call ∷ l.before; session = l.session; joined = ap (λ (rest : List Call). call ∷ rest) l.joined; began = l.began; goes_on = l.goes_on })

pub last-session : (s : State) (store : Store) (calls : List Call) → is_idle s.phase ≡ true → LastSession s store calls
unfolding run
last-session s store calls e =
    elim (idle-or-on s store calls) [
      | inl h ↦ record { before = []; session = calls; joined = refl; began = e; goes_on = h }
      | inr l ↦ l
    ]

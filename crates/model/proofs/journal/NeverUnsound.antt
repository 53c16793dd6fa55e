-- No call on a sound state is refused by 1: no other refusal has that number. Assumes nothing.
use mathlib.Core.Path.{◌≡◌, refl, sym, ◌∙◌}
use mathlib.Core.Bool.{Bool, true, false, cond, ◌||◌}
use mathlib.Core.List.{List, [], ◌∷◌}
use mathlib.Core.Option.{some}
use Prim.Native.Nat.{ℕ}
use lib.Dec.{eqb}
use borrow.Author.Tests.{eq-eqb}
use Rattle.base.specs.Refusals.{Refusal, first_refusal}
use Rattle.base.proofs.Tests.{or-first, or-second, clash, none-some}
use Rattle.actions.specs.Refusals.{action_refusals}
use Rattle.model.specs.State.{State, Store}
use Rattle.model.specs.Calls.{Call, transfer_start, transfer_data, transfer_exit, delete_transfer, process, work, cancel, revert, activate, rollback, finish, report, refused}
use Rattle.model.specs.Sound.{sound}
use Rattle.model.specs.Step.{own_refusals, further_refusals, refusals, step}
use Rattle.model.proofs.soundness.Accepted.{sound-decided}
use Rattle.model.proofs.transitions.Accepting.{accepted-is}
use Rattle.model.proofs.transitions.Refused.{step-cases, not-refused}

-- some refusal of the list has the number
unfoldable pub has_number : ℕ → List Refusal → Bool
has_number number [] = false
has_number number (r ∷ rs) = eqb number r.number || has_number number rs

-- the number of the first that applies is one of the list's
pub first-listed : (number : ℕ) (rs : List Refusal) → first_refusal rs ≡ some number → has_number number rs ≡ true
unfolding first_refusal has_number
first-listed number [] e = none-some e
first-listed number (r ∷ rs) e = go r.applies e (first-listed number rs)
  where
    go : (b : Bool) → cond b (some r.number) (first_refusal rs) ≡ some number
        → (first_refusal rs ≡ some number → has_number number rs ≡ true)
        → eqb number r.number || has_number number rs ≡ true
    go true e ih = or-first _ _ (eq-eqb number r.number (cc))
    go false e ih = or-second (eqb number r.number) _ (ih e)

own-not-one : (s : State) (store : Store) (call : Call) → has_number 1 (own_refusals s store call) ≡ false
unfolding has_number own_refusals action_refusals
own-not-one s store (transfer_start size) = refl
own-not-one s store (transfer_data id counter block) = refl
own-not-one s store (transfer_exit id) = refl
own-not-one s store (delete_transfer id) = refl
own-not-one s store (process id) = refl
own-not-one s store (work n) = refl
own-not-one s store (cancel id) = refl
own-not-one s store revert = refl
own-not-one s store activate = refl
own-not-one s store rollback = refl
own-not-one s store finish = refl
own-not-one s store (report good) = refl

-- behind the first refusal none has the number 1
not-one : (s : State) (store : Store) (call : Call) → sound s store ≡ true → first_refusal (refusals s store call) ≡ some 1 → ⊥
unfolding further_refusals has_number
not-one s store call h e =
    clash (first-listed 1 (further_refusals s store call) (sym (sound-decided s store call h) ∙ e)) (own-not-one s store call)

pub never-unsound : (s : State) (store : Store) (call : Call) → sound s store ≡ true → (step s store call).reply ≡ refused 1 → ⊥
never-unsound s store call h =
    step-cases (λ o. o.reply ≡ refused 1 → ⊥) s store call
    (λ number r e. let same : number ≡ 1 = cc in not-one s store call h (rw same at r))
    λ a e. not-refused 1 (accepted-is s store call a) e

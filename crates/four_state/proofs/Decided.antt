-- The answers of the old calls as one table, and each beside the refusals of the twelve's call of its name: of every state and store and
-- every id. By cases of the manager's state. Assumes nothing.
use Prim.Native.Nat.{ℕ}
use mathlib.Core.Path.{◌≡◌, refl, sym}
use mathlib.Core.Bool.{Bool, true, false, not, cond, ◌&&◌, ◌||◌}
use mathlib.Core.List.{List, [], ◌∷◌}
use mathlib.Core.Option.{Option, none, some}
use lib.Dec.{eqb}
use lib.ListN.{get_or}
use Rattle.base.specs.Refusals.{refuse◌when◌, first_refusal}
use Rattle.base.proofs.Tests.{clash, none-some}
use Rattle.model.specs.State.{Phase, idle, ready, processing, activating, verifying, activated, rolling_back, rolled_back, cleaning_up, is_idle, State, Store}
use Rattle.model.specs.Calls.{cancel, revert, activate, rollback}
use Rattle.model.specs.Areas.{processing_id}
use Rattle.model.specs.Permissions.{allowed}
use Rattle.model.specs.Sound.{sound}
use Rattle.model.specs.Step.{own_refusals, further_refusals, refusals}
use Rattle.four_state.specs.declared.call.OldCall.{OldCall}
use Rattle.four_state.specs.declared.call.OldCall.TheVariants.{Activate, Cancel, Revert, Rollback}
use Rattle.four_state.specs.OldCalls.{twelve_of, shown_as, status_of, is_ready, staged_needs_met, further_answers, old_answers, NeedsMetFor}

-- ---- the table

-- a row: status, Activate, Cancel, Revert, Rollback. met: all needs are met in the staged table; known: Cancel's id is the one processing
abbrev pub sound_row : Phase → Bool → Bool → List ℕ
sound_row idle met known = 0 ∷ 1 ∷ 2 ∷ 1 ∷ 1 ∷ []
sound_row ready met known = 1 ∷ cond met 0 4 ∷ 2 ∷ 0 ∷ 1 ∷ []
sound_row processing met known = 2 ∷ 2 ∷ cond known 0 1 ∷ 2 ∷ 2 ∷ []
sound_row activating met known = 3 ∷ 2 ∷ 2 ∷ 2 ∷ 2 ∷ []
sound_row verifying met known = 3 ∷ 2 ∷ 2 ∷ 2 ∷ 0 ∷ []
sound_row activated met known = 3 ∷ 2 ∷ 2 ∷ 2 ∷ 0 ∷ []
sound_row (rolling_back origin) met known = 2 ∷ 2 ∷ 2 ∷ 2 ∷ 2 ∷ []
sound_row rolled_back met known = 3 ∷ 2 ∷ 2 ∷ 2 ∷ 2 ∷ []
sound_row (cleaning_up origin) met known = 2 ∷ 2 ∷ 2 ∷ 2 ∷ 2 ∷ []

-- of a state that is not sound, or of a sound one
abbrev pub table_row : Bool → Phase → Bool → Bool → List ℕ
table_row unsound phase met known = cond unsound (255 ∷ 2 ∷ 1 ∷ 2 ∷ 2 ∷ []) (sound_row phase met known)

-- ---- the old call's answers beside the refusals of the twelve's call

-- an old call with a number in the table: 0, where none of the twelve's refusals applies and the needs are met as the call demands; or not
-- 0, and not so
pub data Decided (old twelve : Option ℕ) (Met : Type 0) (number : ℕ) : Type 0 where
  begun : number ≡ 0 → old ≡ none → twelve ≡ none → Met → Decided old twelve Met number
  answered : eqb number 0 ≡ false → old ≡ some number → (twelve ≡ none → Met → ⊥) → Decided old twelve Met number

pub some-none : {X : Type 0} {n : ℕ} → some n ≡ none → X
some-none e = none-some (sym e)

activate-decided : (phase : Phase) (unsound met known : Bool)
    → Decided
    (first_refusal ((refuse 2 when unsound) ∷ (refuse 1 when is_idle phase) ∷ (refuse 4 when (is_ready phase && not met)) ∷ (refuse 2 when not (allowed phase activate)) ∷ []))
    (first_refusal ((refuse 1 when unsound) ∷ (refuse 2 when false) ∷ (refuse 3 when not (allowed phase activate)) ∷ []))
    (met ≡ true)
    (get_or (table_row unsound phase met known) 1 0)
unfolding first_refusal allowed
activate-decided phase true met known = answered refl refl λ e m. some-none e
activate-decided idle false met known = answered refl refl λ e m. some-none e
activate-decided ready false true known = begun refl refl refl refl
activate-decided ready false false known = answered refl refl λ e m. clash m refl
activate-decided processing false met known = answered refl refl λ e m. some-none e
activate-decided activating false met known = answered refl refl λ e m. some-none e
activate-decided verifying false met known = answered refl refl λ e m. some-none e
activate-decided activated false met known = answered refl refl λ e m. some-none e
activate-decided (rolling_back origin) false met known = answered refl refl λ e m. some-none e
activate-decided rolled_back false met known = answered refl refl λ e m. some-none e
activate-decided (cleaning_up origin) false met known = answered refl refl λ e m. some-none e

cancel-decided : (phase : Phase) (id : ℕ) (unsound met known : Bool)
    → Decided
    (first_refusal ((refuse 1 when unsound) ∷ (refuse 2 when not (allowed phase (cancel id))) ∷ (refuse 1 when not known) ∷ []))
    (first_refusal ((refuse 1 when unsound) ∷ (refuse 2 when false) ∷ (refuse 3 when not (allowed phase (cancel id))) ∷ (refuse 4 when not known) ∷ []))
    (Unit {0})
    (get_or (table_row unsound phase met known) 2 0)
unfolding first_refusal allowed
cancel-decided phase id true met known = answered refl refl λ e m. some-none e
cancel-decided idle id false met known = answered refl refl λ e m. some-none e
cancel-decided ready id false met known = answered refl refl λ e m. some-none e
cancel-decided processing id false met true = begun refl refl refl tt
cancel-decided processing id false met false = answered refl refl λ e m. some-none e
cancel-decided activating id false met known = answered refl refl λ e m. some-none e
cancel-decided verifying id false met known = answered refl refl λ e m. some-none e
cancel-decided activated id false met known = answered refl refl λ e m. some-none e
cancel-decided (rolling_back origin) id false met known = answered refl refl λ e m. some-none e
cancel-decided rolled_back id false met known = answered refl refl λ e m. some-none e
cancel-decided (cleaning_up origin) id false met known = answered refl refl λ e m. some-none e

revert-decided : (phase : Phase) (unsound met known : Bool)
    → Decided
    (first_refusal ((refuse 2 when unsound) ∷ (refuse 1 when is_idle phase) ∷ (refuse 2 when not (allowed phase revert)) ∷ []))
    (first_refusal ((refuse 1 when unsound) ∷ (refuse 2 when false) ∷ (refuse 3 when not (allowed phase revert)) ∷ []))
    (Unit {0})
    (get_or (table_row unsound phase met known) 3 0)
unfolding first_refusal allowed
revert-decided phase true met known = answered refl refl λ e m. some-none e
revert-decided idle false met known = answered refl refl λ e m. some-none e
revert-decided ready false met known = begun refl refl refl tt
revert-decided processing false met known = answered refl refl λ e m. some-none e
revert-decided activating false met known = answered refl refl λ e m. some-none e
revert-decided verifying false met known = answered refl refl λ e m. some-none e
revert-decided activated false met known = answered refl refl λ e m. some-none e
revert-decided (rolling_back origin) false met known = answered refl refl λ e m. some-none e
revert-decided rolled_back false met known = answered refl refl λ e m. some-none e
revert-decided (cleaning_up origin) false met known = answered refl refl λ e m. some-none e

rollback-decided : (phase : Phase) (unsound met known : Bool)
    → Decided
    (first_refusal ((refuse 2 when unsound) ∷ (refuse 1 when (is_idle phase || is_ready phase)) ∷ (refuse 2 when not (allowed phase rollback)) ∷ []))
    (first_refusal ((refuse 1 when unsound) ∷ (refuse 2 when false) ∷ (refuse 3 when not (allowed phase rollback)) ∷ []))
    (Unit {0})
    (get_or (table_row unsound phase met known) 4 0)
unfolding first_refusal allowed
rollback-decided phase true met known = answered refl refl λ e m. some-none e
rollback-decided idle false met known = answered refl refl λ e m. some-none e
rollback-decided ready false met known = answered refl refl λ e m. some-none e
rollback-decided processing false met known = answered refl refl λ e m. some-none e
rollback-decided activating false met known = answered refl refl λ e m. some-none e
rollback-decided verifying false met known = begun refl refl refl tt
rollback-decided activated false met known = begun refl refl refl tt
rollback-decided (rolling_back origin) false met known = answered refl refl λ e m. some-none e
rollback-decided rolled_back false met known = answered refl refl λ e m. some-none e
rollback-decided (cleaning_up origin) false met known = answered refl refl λ e m. some-none e

status-shown : (phase : Phase) (unsound met known : Bool) → cond (not unsound) (shown_as phase) 255 ≡ get_or (table_row unsound phase met known) 0 0
status-shown phase true met known = refl
status-shown idle false met known = refl
status-shown ready false met known = refl
status-shown processing false met known = refl
status-shown activating false met known = refl
status-shown verifying false met known = refl
status-shown activated false met known = refl
status-shown (rolling_back origin) false met known = refl
status-shown rolled_back false met known = refl
status-shown (cleaning_up origin) false met known = refl

-- ---- of a state and a store

module _ (s : State) (store : Store) where
  -- the row of a state and store, and of Cancel's id
  abbrev pub row_of : ℕ → List ℕ
  row_of id = table_row (not (sound s store)) s.phase (staged_needs_met s) (eqb id (processing_id s.transfers.packages))

  -- an old call, with a number in the table
  abbrev pub DecidedAs : OldCall → ℕ → Type 0
  DecidedAs call number =
      Decided (first_refusal (old_answers s store call)) (first_refusal (refusals s store (twelve_of call))) (NeedsMetFor s call) number

  module _ (id : ℕ) where
    pub by-table-status : status_of s store ≡ get_or (row_of id) 0 0
    unfolding status_of
    by-table-status = go (sound s store)
      where
        go : (b : Bool) → cond b (shown_as s.phase) 255 ≡ get_or (table_row (not b) s.phase (staged_needs_met s) (eqb id (processing_id s.transfers.packages))) 0 0
        go true = status-shown s.phase false (staged_needs_met s) (eqb id (processing_id s.transfers.packages))
        go false = status-shown s.phase true (staged_needs_met s) (eqb id (processing_id s.transfers.packages))

    pub by-table-activate : DecidedAs Activate (get_or (row_of id) 1 0)
    unfolding old_answers further_answers refusals further_refusals own_refusals
    by-table-activate = activate-decided s.phase (not (sound s store)) (staged_needs_met s) _

    pub by-table-cancel : DecidedAs (Cancel id) (get_or (row_of id) 2 0)
    unfolding old_answers further_answers refusals further_refusals own_refusals
    by-table-cancel = cancel-decided s.phase id (not (sound s store)) _ (eqb id (processing_id s.transfers.packages))

    pub by-table-revert : DecidedAs Revert (get_or (row_of id) 3 0)
    unfolding old_answers further_answers refusals further_refusals own_refusals
    by-table-revert = revert-decided s.phase (not (sound s store)) _ _

    pub by-table-rollback : DecidedAs Rollback (get_or (row_of id) 4 0)
    unfolding old_answers further_answers refusals further_refusals own_refusals
    by-table-rollback = rollback-decided s.phase (not (sound s store)) _ _

  -- the number of an old call; which id the row is of plays no part but for Cancel
  pub record Number (call : OldCall) : Type 0 where
    pub number : ℕ
    pub is_decided : DecidedAs call number

  pub decided : (call : OldCall) → Number call
  decided Activate = record { number = _; is_decided = by-table-activate 0 }
  decided (Cancel id) = record { number = _; is_decided = by-table-cancel id }
  decided Revert = record { number = _; is_decided = by-table-revert 0 }
  decided Rollback = record { number = _; is_decided = by-table-rollback 0 }

-- The ways out of a call, the same for all twelve: refused by 1, 2, 3 or one of its own refusals, or accepted. `search ways` closes each
-- return of a call. Assumes nothing.
use Prim.Native.Nat.{ℕ}
use mathlib.Core.Path.{◌≡◌, sym, ap, ◌∙◌}
use mathlib.Core.Bool.{Bool, true, false, not, ◌&&◌}
use mathlib.Core.List.{List, ◌∷◌}
use mathlib.Core.Option.{Option, none, some}
use lib.Dec.{eqb}
use Rattle.std.proofs.Common.{Result, Ok, Err}
use Rattle.base.specs.Refusals as refusals_of
use Rattle.base.specs.Refusals.{refuse◌when◌, first_refusal, number_or_zero}
use Rattle.refusal.specs.declared.Refusal.{Refusal}
use Rattle.refusal.specs.Number.{number_of, refused_with}
use Rattle.base.proofs.Ladder.{told-no, told-yes}
use Rattle.base.proofs.RefusalNumbers.{told-number, told_none}
use Rattle.model.specs.State.{is_processing, Store}
use Rattle.model.specs.Calls.{Call, call_number}
use Rattle.model.specs.Permissions.{allowed}
use Rattle.model.specs.Sound.{sound}
use Rattle.model.specs.Step.{own_refusals, further_refusals, refusals, act, step}
use Rattle.model.proofs.soundness.Accepted.{passed_over, refused-by}
use Rattle.state.specs.declared.state.State.{State}
use Rattle.state.specs.declared.package.Package.{Package}
use Rattle.state.specs.declared.transfers.Transfers.{Transfers}
use Rattle.state.specs.declared.answer.Answer.{Answer}
use Rattle.state.specs.declared.answer.Answered.{Answered}
use Rattle.state.specs.View.{view_phase, view_state}
use Rattle.state.specs.Permissions.{allowed_number}
use Rattle.state.specs.Exact.{with_package, with_transfers}
use Rattle.state.specs.Outcome.{Outcome, outcome, answered, refused_by, view_outcome, SoundIfAccepted, settled, called, called_on_sound}
use Rattle.state.proofs.Permitted.{by_number}
use Rattle.state.proofs.Outcomes.{view-called, called-unsound, called-sound, step-gives-sound}

-- ---- what an accepted call gives, by its parts

-- with a package in the place of another
pub give-package : (i : ℕ) (p p' : Package) (t t' : Transfers) → p' ≡ p → t' ≡ with_package i p' t → t' ≡ with_package i p t
give-package i p p' t t' e f = f ∙ ap (λ (q : Package). with_package i q t) e

-- with other transfers
pub give-transfers : (answer : Answer) (t t' : Transfers) (s s' : State) (r : Answered Answer) → t' ≡ t → s' ≡ with_transfers t' s
    → r ≡ answered answer s' → r ≡ answered answer (with_transfers t s)
give-transfers answer t t' s s' r e f g = rw (g, f, e)

-- and the store then
pub give-store : (r r' : Answered Answer) (store store' : Store) → r' ≡ r → store' ≡ store → outcome r' store' ≡ outcome r store
give-store r r' store store' e f = rw (e, f)

-- ---- a check of the parts, which decides as a call's own refusals do

module _ {A : Type 0} (own rs : List refusals_of.Refusal) (r : Result A Refusal) (told : refused_with r ≡ first_refusal rs) (same : first_refusal own ≡ first_refusal rs) where
  pub told-own : refused_with r ≡ first_refusal own
  told-own = told ∙ sym same

  pub told-passed : (value : A) → r ≡ Ok value → first_refusal own ≡ none
  told-passed value e = same ∙ sym told ∙ ap (λ (x : Result A Refusal). refused_with x) e

-- ---- after refusal 1

module _ (s : State) (store : Store) where
  -- by the number that a check of the parts answers
  pub refuse-number : (refusal : Option ℕ) (n : ℕ) (r : Answered Answer) (o : Outcome) → n ≡ number_or_zero refusal → (n ≡ 0 → ⊥)
      → r ≡ refused_by s n → outcome r store ≡ settled s store refusal o
  unfolding settled
  refuse-number none n r o e f g = absurd (f e)
  refuse-number (some number) n r o e f g = rw (g, e)

  -- by a number that is the first
  pub refuse-by : (first : Option ℕ) (n : ℕ) (a : Answered Answer) (o : Outcome) → some n ≡ first → a ≡ refused_by s n → outcome a store ≡ settled s store first o
  unfolding settled
  refuse-by first n a o e f = rw (← e) (rw f)

  -- by the refusal that a check of the parts answers
  pub refuse-checked : {A : Type 0} (first : Option ℕ) (r : Result A Refusal) (refusal : Refusal) (a : Answered Answer) (o : Outcome)
      → refused_with r ≡ first → r ≡ Err refusal → a ≡ refused_by s (number_of refusal) → outcome a store ≡ settled s store first o
  unfolding settled
  refuse-checked first r refusal a o told e f = rw (← told) (rw (e, f))

  -- by the first of a list, or past it
  pub refuse-first : (n : ℕ) (b : Bool) (rs : List refusals_of.Refusal) (r : Answered Answer) (o : Outcome) → b ≡ true → r ≡ refused_by s n
      → outcome r store ≡ settled s store (first_refusal ((refuse n when b) ∷ rs)) o
  unfolding settled
  refuse-first n b rs r o e f = rw (refused-by (refuse n when b) rs e) (ap (λ (z : Answered Answer). outcome z store) f)

  pub pass-first : (n : ℕ) (b : Bool) (rs : List refusals_of.Refusal) (o given : Outcome) → b ≡ false → given ≡ settled s store (first_refusal rs) o
      → given ≡ settled s store (first_refusal ((refuse n when b) ∷ rs)) o
  pass-first n b rs o given e f = rw (passed_over (refuse n when b) rs e) f

  -- accepted
  pub accept : (refusal : Option ℕ) (o given : Outcome) → refusal ≡ none → given ≡ o → given ≡ settled s store refusal o
  unfolding settled
  accept refusal o given e same = rw e same

  module _ (call : Call) (o : Outcome) where
    abbrev busy : Bool
    busy = eqb (call_number call) 4 && is_processing (view_phase s.phase)

    -- "2. ServiceBusy"
    pub refuse-busy : (r : Answered Answer) → busy ≡ true → r ≡ refused_by s 2 → outcome r store ≡ called_on_sound s store call o
    unfolding called_on_sound further_refusals
    refuse-busy r e f = refuse-first 2 busy _ r o e f

    -- "3. OperationNotPermitted": b is what the table of permissions answers
    module _ (b : Bool) (free : busy ≡ false) (told : b ≡ allowed_number (view_phase s.phase) (call_number call)) where
      same_test : not (allowed (view_phase s.phase) call) ≡ not b
      same_test = ap not (by_number (view_phase s.phase) call ∙ sym told)

      pub refuse-unpermitted : (r : Answered Answer) → not b ≡ true → r ≡ refused_by s 3 → outcome r store ≡ called_on_sound s store call o
      unfolding called_on_sound further_refusals
      refuse-unpermitted r e f =
          pass-first 2 busy _ o _ free (refuse-first 3 (not (allowed (view_phase s.phase) call)) _ r o (same_test ∙ e) f)

      -- a permitted call is decided by its own refusals
      pub pass-permitted : (given : Outcome) → not b ≡ false
          → given ≡ settled s store (first_refusal (own_refusals (view_state s) store call)) o → given ≡ called_on_sound s store call o
      unfolding called_on_sound further_refusals
      pass-permitted given e f =
          pass-first 2 busy _ o given free (pass-first 3 (not (allowed (view_phase s.phase) call)) _ o given (same_test ∙ e) f)

-- ---- a public call

module _ (s : State) (store : Store) (call : Call) (o : Outcome) where
  -- "1. BadState": b is what the check of soundness answers
  pub refuse-unsound : (b : Bool) (r : Answered Answer) → b ≡ sound (view_state s) store → not b ≡ true → r ≡ refused_by s 1
      → outcome r store ≡ called s store call o
  refuse-unsound b r e f g =
      ap (λ (z : Answered Answer). outcome z store) g ∙ called-unsound s store call o (told-no b (sound (view_state s) store) e f)

  pub pass-sound : (b : Bool) (given : Outcome) → b ≡ sound (view_state s) store → not b ≡ false → given ≡ called_on_sound s store call o
      → given ≡ called s store call o
  pass-sound b given e f g = g ∙ called-sound s store call o (told-yes b (sound (view_state s) store) e f)

  -- its three clauses follow from the exact one, where what an accepted call gives is the model's
  pub clauses : (given : Outcome) → given ≡ called s store call o
      → (first_refusal (refusals (view_state s) store call) ≡ none → view_outcome o ≡ act (view_state s) store call)
      → (view_outcome given ≡ step (view_state s) store call) × ((given ≡ called s store call o) × SoundIfAccepted given)
  clauses given exact same =
      let means = ap view_outcome exact ∙ view-called s store call o same in
      (means, (exact, step-gives-sound s store call given means))

pub ruleset ways = (refuse-unsound, pass-sound, refuse-busy, refuse-unpermitted, pass-permitted, refuse-number, refuse-checked, refuse-first, pass-first, accept, told-number, told_none, told-own, told-passed, give-package, give-transfers, give-store)

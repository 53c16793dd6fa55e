-- The ways out of an old call, the same for all four: answered by one of its numbers with the State handed in, or by what the twelve's call
-- of a sound state gave. `search old-ways` closes each return; the other clauses follow from the exact one. Assumes nothing.
use Prim.Native.Nat.{ℕ, ◌≤◌}
use mathlib.Core.Logic.{◌⊎◌}
use native.Mathlib.Omega.{arith}
use mathlib.Core.Path.{◌≡◌, refl, sym, ap, subst, ◌∙◌}
use mathlib.Core.Bool.{Bool, true, false, not, cond, ◌||◌}
use mathlib.Core.List.{List, [], ◌∷◌}
use mathlib.Core.Option.{Option, none, some}
use lib.Dec.{eqb}
use lib.ListN.{length}
use borrow.Author.Tests.{not-false}
use Rattle.base.specs.Refusals.{Refusal, refuse◌when◌, first_refusal, none_applies}
use Rattle.base.proofs.Refusals.{accepted-none, none-accepted}
use Rattle.base.proofs.Tests.{clash, none-some}
use Rattle.base.proofs.Ladder.{told-no, told-yes}
use Rattle.clusters.specs.declared.table.Table.{Table}
use Rattle.clusters.specs.Table.{clusters_most, needs_met}
use Rattle.clusters.specs.View.{view_table}
use Rattle.model.specs.State as model
use Rattle.model.specs.State.{is_idle, phase_number, Store}
use Rattle.model.specs.Calls.{Call, call_number, cancel}
use Rattle.model.specs.Areas.{processing_id}
use Rattle.model.specs.Permissions.{allowed}
use Rattle.model.specs.Tables.{staged}
use Rattle.model.specs.Sound.{session_sound, sound}
use Rattle.model.specs.Step as steps
use Rattle.model.specs.Step.{own_refusals, further_refusals, step}
use Rattle.model.specs.Layers.{EventOutcome, event_outcome, view_outcome_by}
use Rattle.model.proofs.soundness.Accepted.{first-passed, passed_over, refused-by}
use Rattle.model.proofs.soundness.KeptSound.{step-sound}
use Rattle.state.specs.declared.phase.Phase.{Phase}
use Rattle.state.specs.declared.phase.Phase.TheVariants.{Idle, Ready}
use Rattle.state.specs.declared.session.Session.{Session}
use Rattle.state.specs.declared.state.State.{State}
use Rattle.state.specs.declared.answer.Answer.{Answer}
use Rattle.state.specs.declared.answer.Answer.TheVariants.{Done}
use Rattle.state.specs.declared.answer.Answered.{Answered}
use Rattle.state.specs.View.{entries_most, view_phase, view_session, view_state}
use Rattle.state.specs.Permissions.{allowed_number}
use Rattle.state.specs.Outcome.{is_refusal, Outcome, outcome, view_outcome, settled, called_on_sound, answered}
use Rattle.state.proofs.Permitted.{by_number}
use Rattle.state.proofs.Outcomes.{view-called, called-sound}
use Rattle.staging.specs.Staged.{staged_table}
use Rattle.staging.proofs.StagedViews.{view-staged}
use Rattle.cancel_processing.proofs.CancelLaws.{view-noted}
use Rattle.session_calls.proofs.MoveLaws.{view-reverting, view-activating, view-rolling-back}
use Rattle.manager.specs.Accepts.{accepts, exact_step}
use Rattle.four_state.specs.declared.call.OldCall.{OldCall}
use Rattle.four_state.specs.declared.call.OldCall.TheVariants.{Activate, Cancel, Revert, Rollback}
use Rattle.four_state.specs.OldCalls.{twelve_of, is_ready, unsound_answer, further_answers, old_answers, begun_unless, old_step}
use Rattle.four_state.proofs.ExactlyWhen.{zero-is-begun}
use Rattle.four_state.specs.Exact.{old_outcome, answered_by, exact_begun_unless, exact_old_step, answered_on_sound, SoundIfZero}

-- ---- the one condition under which the twelve's call of a sound state is still refused; its number does not matter

-- the manager's state, where the call has no refusal from 4 on
pub left-by-state : (s : model.State) (store : Store) (call : Call) (n : ℕ) → eqb (call_number call) 4 ≡ false → own_refusals s store call ≡ []
    → none_applies (further_refusals s store call) ≡ none_applies ((refuse n when not (allowed s.phase call)) ∷ [])
unfolding further_refusals none_applies
left-by-state s store call n free own = rw (free, own)

-- the id, where the manager's state allows Cancel
pub left-by-id : (s : model.State) (store : Store) (id n : ℕ) → not (allowed s.phase (cancel id)) ≡ false
    → none_applies (further_refusals s store (cancel id)) ≡ none_applies ((refuse n when not (eqb id (processing_id s.transfers.packages))) ∷ [])
unfolding further_refusals own_refusals none_applies
left-by-id s store id n may = rw may

-- ---- an old call gives r, where it is answered by a number or by none
pub record Gives (s : State) (store : Store) (call : OldCall) (answer : Option ℕ) (r : Answered ℕ) : Type 0 where
  pub same : old_outcome r store ≡ exact_begun_unless s store call answer

module _ (s : State) (store : Store) (call : OldCall) where
  -- ---- by the first of a list, or past it

  pub answer-first : (n : ℕ) (b : Bool) (rs : List Refusal) (r : Answered ℕ) → b ≡ true → r ≡ answered n s
      → Gives s store call (first_refusal ((refuse n when b) ∷ rs)) r
  unfolding exact_begun_unless
  answer-first n b rs r e f =
      record { same = rw (refused-by (refuse n when b) rs e) (ap (λ (z : Answered ℕ). old_outcome z store) f) }

  pub pass-answer : (n : ℕ) (b : Bool) (rs : List Refusal) (r : Answered ℕ) → b ≡ false → Gives s store call (first_refusal rs) r
      → Gives s store call (first_refusal ((refuse n when b) ∷ rs)) r
  pass-answer n b rs r e f = record { same = rw (passed_over (refuse n when b) rs e) f.same }

  -- ---- by what the twelve's call of a sound state gave

  -- each of these four answers Done where it is accepted
  accepts-done : (accepts s store (twelve_of call)).answered.answer ≡ Done
  unfolding accepts
  accepts-done =
      elim call as (λ k. (accepts s store (twelve_of k)).answered.answer ≡ Done) [ Activate ↦ refl | Cancel id ↦ refl | Revert ↦ refl | Rollback ↦ refl ]

  module _ (ok : sound (view_state s) store ≡ true) (made : Answered Answer)
      (is : outcome made store ≡ called_on_sound s store (twelve_of call) (accepts s store (twelve_of call))) where
    abbrev left : List Refusal
    left = further_refusals (view_state s) store (twelve_of call)

    -- as it was refused or accepted
    made-settled : (refusal : Option ℕ) → first_refusal left ≡ refusal
        → outcome made store ≡ settled s store refusal (accepts s store (twelve_of call))
    unfolding called_on_sound
    made-settled refusal e = is ∙ ap (λ (z : Option ℕ). settled s store z (accepts s store (twelve_of call))) e

    made-refused : (number other : ℕ) → first_refusal left ≡ some number → answered_by made other ≡ answered other s
    unfolding settled
    made-refused number other e = ap (λ (o : Outcome). answered_by o.answered other) (made-settled (some number) e)

    made-accepted : (other : ℕ) → first_refusal left ≡ none → answered_by made other ≡ answered 0 made.state
    unfolding settled
    made-accepted other e =
        ap (λ (answer : Answer). answered (cond (is_refusal answer) other 0) made.state)
        (ap (λ (o : Outcome). o.answered.answer) (made-settled none e) ∙ accepts-done)

    -- the last number stands for that condition
    pub answer-made : (other : ℕ) (b : Bool) (r : Answered ℕ) → none_applies left ≡ none_applies ((refuse other when b) ∷ [])
        → r ≡ answered_by made other → Gives s store call (first_refusal ((refuse other when b) ∷ [])) r
    unfolding exact_begun_unless first_refusal none_applies
    answer-made other b r same f = go (first_refusal left) refl b same
      where
        go : (refusal : Option ℕ) → first_refusal left ≡ refusal → (b : Bool) → none_applies left ≡ none_applies ((refuse other when b) ∷ [])
            → Gives s store call (first_refusal ((refuse other when b) ∷ [])) r
        go (some number) e true same = record { same = ap (λ (z : Answered ℕ). old_outcome z store) (f ∙ made-refused number other e) }
        go (some number) e false same = none-some (sym (accepted-none left same) ∙ e)
        go none e true same = clash (none-accepted left e) same
        go none e false same =
            record {
              same = ap (λ (z : Answered ℕ). old_outcome z store) (f ∙ made-accepted other e)
                  ∙ ap (λ (o : Outcome). event_outcome 0 o.answered.state o.store) (is ∙ called-sound s store (twelve_of call) (accepts s store (twelve_of call)) ok);
            }

  -- ---- from any state: b is what the check of soundness answers

  abbrev GivesOfSound : Answered ℕ → Type 0
  GivesOfSound r = Gives s store call (first_refusal (further_answers (view_state s) call)) r

  abbrev GivesExactly : Answered ℕ → Type 0
  GivesExactly r = Gives s store call (first_refusal (old_answers (view_state s) store call)) r

  module _ (b : Bool) (told : b ≡ sound (view_state s) store) where
    pub answer-unsound : (r : Answered ℕ) → not b ≡ true → r ≡ answered (unsound_answer call) s → GivesExactly r
    unfolding old_answers
    answer-unsound r e f = answer-first (unsound_answer call) _ _ r (ap not (told-no b (sound (view_state s) store) told e)) f

    pub pass-sound : (r : Answered ℕ) → not b ≡ false → GivesOfSound r → GivesExactly r
    unfolding old_answers
    pass-sound r e f = pass-answer (unsound_answer call) _ _ r (ap not (told-yes b (sound (view_state s) store) told e)) f

  -- of a sound state, as a function ensures it
  pub on-sound : (r : Answered ℕ) → old_outcome r store ≡ answered_on_sound s store call → GivesOfSound r
  on-sound r e = record { same = e }

  -- what it gives, of any state and of a sound one, as a function ensures it
  pub as-ensured : (answer : Option ℕ) (r : Answered ℕ) → Gives s store call answer r → old_outcome r store ≡ exact_begun_unless s store call answer
  as-ensured answer r g = g.same

  -- ---- its clauses

  -- what the twelve's call gives is the model's
  view-twelve : view_outcome (exact_step s store (twelve_of call)) ≡ step (view_state s) store (twelve_of call)
  unfolding accepts
  view-twelve = view-called s store (twelve_of call) (accepts s store (twelve_of call))
      (elim call as (λ k. first_refusal (steps.refusals (view_state s) store (twelve_of k)) ≡ none
      → view_outcome (accepts s store (twelve_of k)) ≡ steps.act (view_state s) store (twelve_of k)) [
        | Activate ↦ λ h. view-activating s store
        | Cancel id ↦ λ h. view-noted s store id h
        | Revert ↦ λ h. view-reverting s store
        | Rollback ↦ λ h. view-rolling-back s store
      ])

  -- so what the old call gives is the model's
  view-answered : (answer : Option ℕ)
      → (let o = step (view_state s) store (twelve_of call) in
      view_outcome_by view_state (exact_begun_unless s store call answer) ≡ begun_unless (view_state s) store answer o.state o.store)
  unfolding exact_begun_unless
  view-answered (some number) = refl
  view-answered none = ap (λ (o : steps.Outcome). event_outcome 0 o.state o.store) view-twelve

  pub view-old : view_outcome_by view_state (exact_old_step s store call) ≡ old_step (view_state s) store call
  unfolding old_step
  view-old = view-answered (first_refusal (old_answers (view_state s) store call))

  -- one answered 0 was begun on a sound state
  sound-if-zero : SoundIfZero (exact_old_step s store call)
  unfolding SoundIfZero old_answers old_step
  sound-if-zero zero =
      let o = step (view_state s) store (twelve_of call) in
      let passed = zero-is-begun (view_state s) store call (sym (ap (λ (given : EventOutcome model.State ℕ). given.answer) view-old) ∙ zero) in
      subst (λ (given : EventOutcome model.State ℕ). sound given.state given.store ≡ true)
      (sym (view-old ∙ ap (λ (answer : Option ℕ). begun_unless (view_state s) store answer o.state o.store) passed))
      (step-sound (view_state s) store (twelve_of call) (not-false _ (first-passed _ _ passed)))

  -- the three follow from the exact one
  pub old-clauses : (r : Answered ℕ) → old_outcome r store ≡ exact_old_step s store call
      → (view_outcome_by view_state (old_outcome r store) ≡ old_step (view_state s) store call)
      × ((old_outcome r store ≡ exact_old_step s store call) × SoundIfZero (old_outcome r store))
  old-clauses r exact = (ap (view_outcome_by view_state) exact ∙ view-old, (exact, subst SoundIfZero (sym exact) sound-if-zero))

-- ---- what the functions tell

-- b is whether the manager's state is Idle, is Ready, or is one of the two
module _ (phase : Phase) (b : Bool) where
  pub told-idle : phase ≡ Idle → b ≡ true → is_idle (view_phase phase) ≡ b
  told-idle is e = rw (is, e)

  pub other-idle : (phase ≡ Idle → ⊥) → b ≡ false → is_idle (view_phase phase) ≡ b
  other-idle other e = grind arith

  pub told-ready : phase ≡ Ready → b ≡ true → is_ready (view_phase phase) ≡ b
  told-ready is e = rw (is, e)

  pub other-ready : (phase ≡ Ready → ⊥) → b ≡ false → is_ready (view_phase phase) ≡ b
  other-ready other e = grind arith

  pub told-either : (phase ≡ Idle) ⊎ (phase ≡ Ready) → b ≡ true → is_idle (view_phase phase) || is_ready (view_phase phase) ≡ b
  told-either is e = grind arith

  pub other-either : (phase ≡ Idle → ⊥) → (phase ≡ Ready → ⊥) → b ≡ false → is_idle (view_phase phase) || is_ready (view_phase phase) ≡ b
  other-either idle ready e = grind arith

-- whether Cancel is permitted, which the table of permissions answers by the call's number
pub told-permitted : (b x : Bool) (phase : model.Phase) (id : ℕ) → b ≡ allowed_number phase 6 → not b ≡ x → not (allowed phase (cancel id)) ≡ x
told-permitted b x phase id told e = ap not (by_number phase (cancel id) ∙ sym told) ∙ e

-- whether needs are not met in the staged table
pub needs-of-staged : (session : Session) → session.count ≤ entries_most → length session.beginning.clusters ≡ clusters_most
    → session_sound (view_session session) ≡ true → (t : Table) (met : Bool) → t ≡ staged_table session → met ≡ needs_met (view_table t)
    → not met ≡ not (needs_met (staged (view_session session)))
needs-of-staged session few long ok t met e f =
    ap not (f ∙ ap (λ (z : Table). needs_met (view_table z)) e ∙ ap needs_met (view-staged session few long ok))

pub ruleset old-ways = (answer-unsound, pass-sound, on-sound, answer-first, pass-answer, answer-made, left-by-state, left-by-id)

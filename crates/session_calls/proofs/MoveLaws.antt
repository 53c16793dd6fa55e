-- A call that moves the manager's state alone: its two ways out on the structs, and what it gives is seen as the model's. The four calls
-- cite these. Assumes nothing.
use Prim.Native.Nat.{ℕ}
use mathlib.Core.Path.{◌≡◌, refl, sym, ap, ◌∙◌}
use mathlib.Core.Bool.{Bool, true, false, not, cond, ◌&&◌}
use lib.Dec.{eqb}
use Rattle.base.specs.Refusals.{first_refusal}
use Rattle.base.proofs.Ladder.{both-stop}
use Rattle.model.specs.State as model
use Rattle.model.specs.State.{is_processing, phase_number, Store}
use Rattle.model.specs.Calls.{Call, call_number, revert, activate, rollback, finish, done}
use Rattle.model.specs.Step.{own_refusals, moves_to, act}
use Rattle.state.specs.declared.phase.Phase.{Phase}
use Rattle.state.specs.declared.phase.Phase.TheVariants.{Activating, RollingBack, CleaningUp}
use Rattle.state.specs.declared.phase.CleanUpOrigin.TheVariants as clean_up
use Rattle.state.specs.declared.state.State.{State}
use Rattle.state.specs.declared.answer.Answer.{Answer}
use Rattle.state.specs.declared.answer.Answered.{Answered}
use Rattle.state.specs.declared.answer.Answer.TheVariants.{Done}
use Rattle.state.specs.View.{view_rollback_origin, view_clean_up_origin, view_phase, view_state}
use Rattle.state.specs.Permissions.{allowed_number}
use Rattle.state.specs.Exact.{in_phase}
use Rattle.state.specs.Outcome.{Outcome, outcome, answered, refused_by, view_outcome, called_on_sound}
use Rattle.state.proofs.Ways.{refuse-unpermitted, pass-permitted, accept}
use Rattle.session_calls.specs.Moved.{moved, reverting, activating, rollback_origin, rolling_back, finish_origin, finishing, MovesAlone}

-- ---- the ways out: b is what the table of permissions answers

module _ (s : State) (next : Phase) (number : ℕ) (b : Bool) (told : b ≡ allowed_number (view_phase s.phase) number) where
  told_of : (call : Call) (store : Store) → MovesAlone s store call number → b ≡ allowed_number (view_phase s.phase) (call_number call)
  told_of call store m = told ∙ ap (allowed_number (view_phase s.phase)) (sym m.numbered)

  free_of : (call : Call) (store : Store) → MovesAlone s store call number → eqb (call_number call) 4 && is_processing (view_phase s.phase) ≡ false
  free_of call store m = both-stop (eqb (call_number call) 4) _ m.free

  pub move-refused : (r : Answered Answer) → not b ≡ true → r ≡ refused_by s 3
      → (call : Call) (store : Store) → MovesAlone s store call number → outcome r store ≡ called_on_sound s store call (moved next s store)
  move-refused r e f call store m = refuse-unpermitted s store call (moved next s store) b (free_of call store m) (told_of call store m) r e f

  pub move-accepted : (r : Answered Answer) (after : State) → not b ≡ false → after ≡ in_phase next s → r ≡ answered Done after
      → (call : Call) (store : Store) → MovesAlone s store call number → outcome r store ≡ called_on_sound s store call (moved next s store)
  unfolding first_refusal
  move-accepted r after e f g call store m =
      pass-permitted s store call (moved next s store) b (free_of call store m) (told_of call store m) (outcome r store) e
      (accept s store (first_refusal (own_refusals (view_state s) store call)) (moved next s store) (outcome r store)
      (ap first_refusal m.own)
      (rw (g, f)))

-- what is given where the next state is known by an equation
pub move-known : (s : State) (store : Store) (call : Call) (next known : Phase) (o : Outcome)
    → o ≡ called_on_sound s store call (moved next s store) → next ≡ known → o ≡ called_on_sound s store call (moved known s store)
move-known s store call next known o given same = given ∙ ap (λ (phase : Phase). called_on_sound s store call (moved phase s store)) same

-- ---- what is given is the model's

view-choice : {A B : Type 0} (f : A → B) (b : Bool) (x y : A) → f (cond b x y) ≡ cond b (f x) (f y)
view-choice f true x y = refl
view-choice f false x y = refl

module _ (s : State) (store : Store) where
  -- where both move to the same state
  view-moved : (next : Phase) (to : model.Phase) → view_phase next ≡ to → view_outcome (moved next s store) ≡ moves_to (view_state s) store to done
  view-moved next to e = ap (λ (phase : model.Phase). moves_to (view_state s) store phase done) e

  pub view-reverting : view_outcome (reverting s store) ≡ act (view_state s) store revert
  unfolding act
  view-reverting = view-moved (CleaningUp clean_up.Ready) _ refl

  pub view-activating : view_outcome (activating s store) ≡ act (view_state s) store activate
  unfolding act
  view-activating = view-moved Activating _ refl

  pub view-rolling-back : view_outcome (rolling_back s store) ≡ act (view_state s) store rollback
  unfolding act rollback_origin
  view-rolling-back =
      view-moved (RollingBack (rollback_origin s.phase)) _ (ap model.rolling_back (view-choice view_rollback_origin (eqb (phase_number (view_phase s.phase)) 4) _ _))

  pub view-finishing : view_outcome (finishing s store) ≡ act (view_state s) store finish
  unfolding act finish_origin
  view-finishing =
      view-moved (CleaningUp (finish_origin s.phase)) _ (ap model.cleaning_up (view-choice view_clean_up_origin (eqb (phase_number (view_phase s.phase)) 5) _ _))

-- A call on the code's structs, seen as the model has it: a refused one is the model's refused one, and so is an accepted one where its
-- outcome is seen as the model's. An unsound state is refused by 1, a sound one is decided by the further refusals. An accepted call gives
-- a sound state. Assumes nothing.
use Prim.Native.Nat.{ℕ}
use mathlib.Core.Path.{◌≡◌, refl, sym, ap, subst, ◌∙◌}
use mathlib.Core.Bool.{Bool, true, false, true≢false}
use mathlib.Core.List.{List}
use mathlib.Core.Option.{Option, none, some}
use Rattle.base.specs.Refusals.{first_refusal}
use Rattle.model.specs.State as states
use Rattle.model.specs.State.{Store}
use Rattle.model.specs.Calls.{Call, Answer, done, refused, accepted}
use Rattle.model.specs.Sound.{sound}
use Rattle.model.specs.Step as model
use Rattle.model.proofs.soundness.Accepted.{sound-decided, unsound-refused}
use Rattle.model.proofs.soundness.KeptSound.{kept-sound}
use Rattle.state.specs.declared.transfers.Transfers.{Transfers}
use Rattle.state.specs.declared.state.State.{State}
use Rattle.state.specs.declared.answer.Answer.TheVariants.{Done}
use Rattle.state.specs.View.{view_transfers, view_phase, view_session, view_work, view_state}
use Rattle.state.specs.Exact.{with_transfers}
use Rattle.state.specs.Outcome.{Outcome, outcome, answered, refused_by, view_outcome, SoundIfAccepted, settled, called, called_on_sound}

pub view-settled : (s : State) (store : Store) (refusal : Option ℕ) (o : Outcome) (o' : model.Outcome)
    → (refusal ≡ none → view_outcome o ≡ o') → view_outcome (settled s store refusal o) ≡ model.unless_refused (view_state s) store refusal o'
unfolding settled
view-settled s store none o o' same = same refl
view-settled s store (some number) o o' same = refl

-- an accepted call that changes the packages and the store alone
pub view-packages : (s : State) (store : Store) (t : Transfers) (ps : List states.Package) (stored : Store)
    → view_transfers t ≡ model.with_packages ps (view_transfers s.transfers)
    → view_outcome (outcome (answered Done (with_transfers t s)) stored) ≡ model.changes_packages (view_state s) store ps stored
view-packages s store t ps stored same =
    ap (λ (transfers : states.Transfers). model.outcome done (states.state (view_phase s.phase) transfers (view_session s.session) (view_work s.work)) stored) same

-- what is called is the model's step, where its accepted outcome is
pub view-called : (s : State) (store : Store) (call : Call) (o : Outcome)
    → (first_refusal (model.refusals (view_state s) store call) ≡ none → view_outcome o ≡ model.act (view_state s) store call)
    → view_outcome (called s store call o) ≡ model.step (view_state s) store call
unfolding called model.step
view-called s store call o same = view-settled s store (first_refusal (model.refusals (view_state s) store call)) o _ same

module _ (s : State) (store : Store) (call : Call) (o : Outcome) where
  pub called-unsound : sound (view_state s) store ≡ false → outcome (refused_by s 1) store ≡ called s store call o
  unfolding called settled
  called-unsound e = rw (unsound-refused (view_state s) store call e)

  pub called-sound : sound (view_state s) store ≡ true → called_on_sound s store call o ≡ called s store call o
  unfolding called called_on_sound
  called-sound e = rw (sound-decided (view_state s) store call e)

not-accepted : {X : Type 0} {number : ℕ} {answer : Answer} → refused number ≡ accepted answer → X
not-accepted e = let z : ◌≡◌ {A = Bool} true false = cc in absurd (true≢false z)

-- what is given as the model's step is sound if it is accepted
pub step-gives-sound : (s : State) (store : Store) (call : Call) (o : Outcome) → view_outcome o ≡ model.step (view_state s) store call
    → SoundIfAccepted o
unfolding model.step SoundIfAccepted
step-gives-sound s store call o same answer e = go (first_refusal (model.refusals (view_state s) store call)) refl same
  where
    go : (refusal : Option ℕ) → first_refusal (model.refusals (view_state s) store call) ≡ refusal
        → view_outcome o ≡ model.unless_refused (view_state s) store refusal (model.act (view_state s) store call)
        → sound (view_state o.answered.state) o.store ≡ true
    go (some number) is same = not-accepted (sym (ap (λ (given : model.Outcome). given.reply) same) ∙ e)
    go none is same =
        subst (λ (given : model.Outcome). sound given.state given.store ≡ true) (sym same) (kept-sound (view_state s) store call is)

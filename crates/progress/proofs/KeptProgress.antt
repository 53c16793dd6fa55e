-- Progress of a sound state by the manager's state: 0 outside Processing, and in it by the kept values, which are not cleared there.
-- Assumes nothing.
use Prim.Native.Nat.{ℕ}
use mathlib.Core.Path.{◌≡◌, sym, ap, ◌∙◌}
use mathlib.Core.Bool.{Bool, true, false, not}
use mathlib.Core.Option.{some}
use Rattle.base.proofs.Ladder.{told-no, told-yes}
use Rattle.model.specs.State as model
use Rattle.model.specs.State.{Store, is_processing}
use Rattle.model.specs.Sound.{sound}
use Rattle.model.specs.Reading.{ReadingReply, refused_by, given, progress_of, progress}
use Rattle.model.proofs.reading.Progress.{progress-outside}
use Rattle.model.proofs.reading.Replies.{progress-decided, progress-unsound}
use Rattle.state.specs.declared.state.State.{State}
use Rattle.state.specs.View.{view_phase, kept_work, view_state}
use Rattle.state.proofs.KeptValues.{kept_there}

-- b is whether the code has the manager's state as Processing
module _ (s : State) (store : Store) (ok : sound (view_state s) store ≡ true) (b : Bool) (told : b ≡ is_processing (view_phase s.phase)) where
  pub outside : b ≡ false → given 0 ≡ given (progress_of (view_state s).work)
  outside h = ap given (sym (progress-outside (view_state s) store ok (sym told ∙ h)))

  pub inside : (percentage : ℕ) → b ≡ true → percentage ≡ progress_of (some (kept_work s.work))
      → given percentage ≡ given (progress_of (view_state s).work)
  inside percentage h same = ap given (same ∙ ap progress_of (sym (kept_there s store ok (sym told ∙ h))))

-- b is what the check of soundness answers
module _ (s : model.State) (store : Store) (b : Bool) (told : b ≡ sound s store) where
  pub unsound : not b ≡ true → refused_by 1 ≡ progress s store
  unsound h = sym (progress-unsound s store (told-no b _ told h))

  pub on-sound : (r : ReadingReply) → not b ≡ false → r ≡ given (progress_of s.work) → r ≡ progress s store
  on-sound r h e = e ∙ sym (progress-decided s store (told-yes b _ told h))

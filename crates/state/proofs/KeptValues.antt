-- The kept values of a sound state in Processing: they are not cleared there, so they are seen as they are. Assumes nothing.
use mathlib.Core.Path.{◌≡◌, ap}
use mathlib.Core.Bool.{true, false, not}
use mathlib.Core.Option.{some}
use Rattle.base.proofs.Tests.{bool_cases, clash}
use Rattle.model.specs.State.{Store, is_processing}
use Rattle.model.specs.Sound.{kept_sound, sound}
use Rattle.model.proofs.soundness.SoundFacts.{WorkFacts, sound-says}
use Rattle.model.proofs.soundness.KeptValues.{kept-says}
use Rattle.state.specs.declared.work.Work.{Work}
use Rattle.state.specs.declared.state.State.{State}
use Rattle.state.specs.View.{view_packages, view_phase, view_session, is_cleared_work, kept_work, view_work, view_state}

kept_seen : (w : Work) → is_cleared_work w ≡ false → view_work w ≡ some (kept_work w)
kept_seen w e = rw e

module _ (s : State) (store : Store) (ok : sound (view_state s) store ≡ true) (in-it : is_processing (view_phase s.phase) ≡ true) where
  pub kept_there : view_work s.work ≡ some (kept_work s.work)
  unfolding kept_sound
  kept_there =
      bool_cases (is_cleared_work s.work)
      (λ e. let h = (sound-says (view_state s) store ok).kept_values in clash (rw e at h) (ap not in-it))
      λ e. kept_seen s.work e

  pub kept-facts : WorkFacts (view_session s.session) (view_packages s.transfers) (kept_work s.work)
  kept-facts =
      kept-says (view_phase s.phase) (view_session s.session) (view_packages s.transfers) (kept_work s.work)
      (rw kept_there at (sound-says (view_state s) store ok).kept_values)

-- Marks in a sound state: the staged and the running table mark what the beginning table marks, and a state whose list or kept action
-- removes a marked cluster is not sound. Assumes nothing.
use Prim.Native.Nat.{ℕ}
use mathlib.Core.Path.{◌≡◌, refl, sym, ap, ◌∙◌}
use mathlib.Core.Bool.{Bool, true, false, false≢true}
use mathlib.Core.List.{List, [], ◌∷◌, ◌++◌}
use mathlib.Core.Option.{Option, none, some}
use Rattle.base.proofs.Tests.{and_left, and_right, bool_cases, clash}
use Rattle.clusters.specs.Cluster.{Cluster}
use Rattle.clusters.specs.Table.{Table, find}
use Rattle.actions.specs.Action.{Action, remove, apply_all}
use Rattle.actions.specs.Refusals.{is_marked, cluster_stays, passes, pass_in_turn}
use Rattle.actions.proofs.Changes.{passes-says}
use Rattle.actions.proofs.InTurn.{pass-in-turn-append}
use Rattle.actions.proofs.Marks.{pass-in-turn-marks}
use Rattle.model.specs.State.{is_processing, Work, State, Store, actions}
use Rattle.model.specs.Tables.{staged, running}
use Rattle.model.specs.Sound.{kept_sound, sound}
use Rattle.model.proofs.soundness.SoundFacts.{Sound, sound-says, WorkFacts, work-says}
use Rattle.model.proofs.soundness.RunningWithin.{of-running}

-- what is marked is there
pub marked-is : (found : Option Cluster) → is_marked found ≡ true → (d : Cluster) × (found ≡ some d) × (d.stays ≡ true)
marked-is none h = absurd (false≢true h)
marked-is (some d) h = (d, refl, h)

-- a remove of a marked cluster does not pass 21
removes-none : (t : Table) (listed : List Action) (part : ℕ) → passes t listed (remove part) ≡ true → is_marked (find part t) ≡ false
unfolding cluster_stays
removes-none t listed part h = (passes-says t listed (remove part) h).may-go

module _ (s : State) (store : Store) where
  pub staged-marks : Sound s store → (part : ℕ) → is_marked (find part (staged s.session)) ≡ is_marked (find part s.session.beginning)
  unfolding staged
  staged-marks ok part = pass-in-turn-marks s.session.beginning [] (actions s.session.listed) ok.turn part

  pub running-marks : sound s store ≡ true → (part : ℕ) → is_marked (find part (running s)) ≡ is_marked (find part s.session.beginning)
  unfolding running
  running-marks h part =
      of-running (λ t. is_marked (find part t) ≡ is_marked (find part s.session.beginning)) s.session refl
      (staged-marks (sound-says s store h) part) s.phase

  unsound-where : (b : Bool) → b ≡ true → (sound s store ≡ true → b ≡ false) → sound s store ≡ false
  unsound-where b e f = bool_cases (sound s store) (λ h. absurd (clash e (f h))) λ h. h

  -- a listed action removes a cluster that is marked in the table staged before it
  pub listed-unsound : (before rest : List Action) (part : ℕ) → actions s.session.listed ≡ before ++ remove part ∷ rest
      → is_marked (find part (apply_all s.session.beginning before)) ≡ true → sound s store ≡ false
  unfolding pass_in_turn
  listed-unsound before rest part e mark =
      unsound-where _ mark λ h.
      let turn = ap (pass_in_turn s.session.beginning []) (sym e) ∙ (sound-says s store h).turn in
      let behind = and_right (pass_in_turn s.session.beginning [] before) _
      (sym (pass-in-turn-append s.session.beginning [] before (remove part ∷ rest)) ∙ turn) in
      removes-none _ before part (and_left _ _ behind)

  -- the kept action removes a cluster that is marked in the staged table
  pub kept-unsound : (w : Work) (part : ℕ) → s.work ≡ some w → w.action ≡ remove part
      → is_marked (find part (staged s.session)) ≡ true → sound s store ≡ false
  unfolding kept_sound
  kept-unsound w part e a mark =
      unsound-where _ mark λ h.
      let kept = ap (kept_sound s.phase s.session s.transfers.packages) (sym e) ∙ (sound-says s store h).kept_values in
      let facts : WorkFacts s.session s.transfers.packages w =
      work-says s.session s.transfers.packages w (and_right (is_processing s.phase) _ kept) in
      removes-none _ _ part (ap (passes (staged s.session) (actions s.session.listed)) (sym a) ∙ facts.passed)

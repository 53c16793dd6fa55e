-- Soundness of a whole state in the order in which the code decides it: the packages, then the list and the manager's state, then the session
-- with the kept values. What a part needs of the state is told by the parts before it. Assumes nothing.
use Prim.Native.Nat.{ℕ, ◌+◌, ◌≤◌}
use mathlib.Core.Path.{◌≡◌, sym, ◌∙◌}
use mathlib.Core.Bool.{Bool, true, false, cond, ◌&&◌}
use native.Mathlib.Omega.{arith}
use lib.ListN.{length}
use Rattle.base.proofs.Ladder.{and-stop, and-on}
use Rattle.model.specs.State.{is_processing}
use Rattle.model.specs.Sound.{packages_most, packages_rise, store_sound, transfers_sound, session_sound, list_sound, kept_sound, processing_sound, list_fits, sound_for}
use Rattle.state.specs.declared.state.State.{State}
use Rattle.state.specs.View.{view_packages, view_transfers, view_phase, entries_most, view_entries, view_session, view_work, view_state}
use Rattle.soundness.specs.Parts.{list_part_sound, session_part_sound}
use Rattle.soundness.proofs.Order.{session-last}
use Rattle.soundness.proofs.TransferLimits.{limits-told}
use Rattle.soundness.proofs.ListParts.{room-for-all, numbers-told}

module _ (s : State) (room : ℕ) where
  abbrev pub transfers_part : Bool
  transfers_part = store_sound (view_packages s.transfers) room && transfers_sound (view_transfers s.transfers)

  abbrev pub list_part : Bool
  list_part = list_part_sound (view_phase s.phase) (view_packages s.transfers) (view_entries s.session)

  abbrev session_part : Bool
  session_part = session_part_sound (view_phase s.phase) (view_session s.session) (view_packages s.transfers) (view_work s.work)

  parts : sound_for (view_state s) room ≡ transfers_part && (list_part && session_part)
  unfolding sound_for
  parts =
      session-last (store_sound (view_packages s.transfers) room) (transfers_sound (view_transfers s.transfers)) (session_sound (view_session s.session))
      (list_sound (view_entries s.session) (view_packages s.transfers))
      (kept_sound (view_phase s.phase) (view_session s.session) (view_packages s.transfers) (view_work s.work))
      (processing_sound (view_phase s.phase) (view_packages s.transfers)) (list_fits (view_phase s.phase) (view_entries s.session))

  pub transfers-unsound : transfers_part ≡ false → false ≡ sound_for (view_state s) room
  transfers-unsound h = and-stop transfers_part _ h ∙ sym parts

  module _ (checked : transfers_part ≡ true) where
    pub list-unsound : list_part ≡ false → false ≡ sound_for (view_state s) room
    list-unsound h = and-on transfers_part _ _ checked (and-stop list_part _ h) ∙ sym parts

    pub session-decides : list_part ≡ true → (r : Bool) → r ≡ session_part → r ≡ sound_for (view_state s) room
    session-decides h r told = and-on transfers_part _ r checked (and-on list_part _ r h told) ∙ sym parts

    pub few-packages : s.transfers.count ≤ packages_most
    few-packages = (limits-told s.transfers room checked).0

    pub rising : packages_rise 0 s.transfers.next (view_packages s.transfers) ≡ true
    rising = (limits-told s.transfers room checked).1

    pub room-in-list : length s.session.entries ≡ entries_most → list_part ≡ true
        → s.session.count + cond (is_processing (view_phase s.phase)) 1 0 ≤ entries_most
    room-in-list long h =
        let told = numbers-told s.session.entries s.session.count long (view_phase s.phase) (view_packages s.transfers) h in
        omega (arith, told.0, told.1, room-for-all s.transfers few-packages)

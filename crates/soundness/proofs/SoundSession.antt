-- What soundness says of the session's struct: the count of its list fits the room, and its actions pass in turn. Assumes nothing.
use Prim.Native.Nat.{◌≤◌}
use mathlib.Core.Path.{◌≡◌, sym, ◌∙◌}
use mathlib.Core.Bool.{true}
use native.Mathlib.Omega.{arith}
use lib.ListN.{length, length-map}
use borrow.Author.Tests.{le-leb, leb-true}
use Rattle.base.specs.Counted.{counted}
use Rattle.base.proofs.Counted.{counted-fits}
use Rattle.base.proofs.Tests.{and_both}
use Rattle.model.specs.State.{Store}
use Rattle.model.specs.Sound.{packages_most, session_sound, sound}
use Rattle.model.proofs.soundness.SoundFacts.{sound-says}
use Rattle.state.specs.declared.state.State.{State}
use Rattle.state.specs.View.{entries_most, cleared_entry, view_entry, view_session, view_state}
use Rattle.state.proofs.Views.{packages-fit}
use Rattle.soundness.proofs.ListParts.{room-for-all}

module _ (s : State) (store : Store) (ok : sound (view_state s) store ≡ true) where
  -- as many entries as Processed packages
  pub session-fits : s.session.count ≤ entries_most
  session-fits =
      let facts = sound-says (view_state s) store ok in
      let entries = counted entries_most cleared_entry s.session.count s.session.entries in
      let few = leb-true s.transfers.count packages_most (sym (packages-fit s.transfers) ∙ le-leb _ _ facts.few) in
      let short : length entries ≤ entries_most =
      omega (arith, length-map entries view_entry, facts.entries, room-for-all s.transfers few) in
      leb-true _ _ (sym (counted-fits entries_most s.session.count cleared_entry s.session.entries) ∙ le-leb _ _ short)

  pub session-sound : session_sound (view_session s.session) ≡ true
  unfolding session_sound
  session-sound =
      let facts = sound-says (view_state s) store ok in
      and_both _ _ facts.beginning (and_both _ _ facts.within facts.turn)

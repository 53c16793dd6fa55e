-- TransferStart on the structs and in the model: its refusals are the model's, where none applies there is room for a package and an id,
-- and what it then gives is seen as the model's. Assumes nothing.
use Prim.Native.Nat.{ℕ, ◌-◌, ◌<◌}
use mathlib.Core.Path.{◌≡◌, refl, sym, ◌∙◌}
use mathlib.Core.Bool.{true}
use mathlib.Core.Option.{none}
use native.Mathlib.Omega.{arith}
use lib.ListN.{length}
use borrow.Author.Tests.{leb-false, ltb-false}
use Rattle.std.proofs.Common.{Result, Ok}
use Rattle.base.specs.Refusals.{first_refusal}
use Rattle.refusal.specs.declared.Refusal.{Refusal}
use Rattle.refusal.specs.Number.{refused_with}
use Rattle.model.specs.State.{Store}
use Rattle.model.specs.Areas.{declared, free}
use Rattle.model.specs.Sound.{packages_most, id_most, sound}
use Rattle.model.specs.Calls.{transfer_start}
use Rattle.model.specs.Step.{own_refusals, refusals, act, start_refusals}
use Rattle.model.proofs.soundness.Accepted.{first-passed, rest-passed, accepted-sound, accepted-own}
use Rattle.state.specs.declared.state.State.{State}
use Rattle.state.specs.View.{view_packages, view_state}
use Rattle.state.specs.Outcome.{view_outcome}
use Rattle.state.proofs.Views.{view-with-new-package}
use Rattle.state.proofs.Ways.{told-passed}
use Rattle.state.proofs.PackagesAlong.{packages-length}
use Rattle.areas.proofs.FoundPackage.{count_fits}
use Rattle.transfer_start.specs.Start.{started}

-- where none applies there is room for a package and an id
module _ (size count free next : ℕ) (r : Result (Unit {0}) Refusal) (value : Unit {0})
    (told : refused_with r ≡ first_refusal (start_refusals size count free next)) (e : r ≡ Ok value) where
  passed : first_refusal (start_refusals size count free next) ≡ none
  passed = told-passed _ _ r told refl value e

  pub start-room : count < packages_most
  start-room = leb-false _ _ (first-passed _ _ (rest-passed _ _ passed))

  pub start-id : next < 4294967296
  start-id = omega (arith, ltb-false id_most next (first-passed _ _ (rest-passed _ _ (rest-passed _ _ (rest-passed _ _ passed)))))

module _ (s : State) (store : Store) (size : ℕ) (long : length s.transfers.packages ≡ packages_most) where
  -- its refusals are the model's
  pub start-own : (n : ℕ) → sound (view_state s) store ≡ true → n ≡ length store - declared (view_packages s.transfers)
      → first_refusal (own_refusals (view_state s) store (transfer_start size)) ≡ first_refusal (start_refusals size s.transfers.count n s.transfers.next)
  unfolding own_refusals free
  start-own n ok e = rw (e, packages-length s.transfers (count_fits s store ok) long)

  -- what is given is the model's
  pub view-started : first_refusal (refusals (view_state s) store (transfer_start size)) ≡ none
      → view_outcome (started s store size) ≡ act (view_state s) store (transfer_start size)
  unfolding own_refusals act
  view-started h =
      let call = transfer_start size in
      let few = count_fits s store (accepted-sound (view_state s) store call h) in
      let room = leb-false packages_most (length (view_packages s.transfers)) (first-passed _ _ (rest-passed _ _ (accepted-own (view_state s) store call h))) in
      rw (view-with-new-package s.transfers size (omega (arith, room, packages-length s.transfers few long)))

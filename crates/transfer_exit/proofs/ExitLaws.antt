-- TransferExit on the structs and in the model: its refusals are the model's, and what an accepted call gives is seen as the model's.
-- Assumes nothing.
use Prim.Native.Nat.{ℕ, ◌+◌, ◌-◌}
use mathlib.Core.Path.{◌≡◌, refl, ◌∙◌}
use mathlib.Core.Option.{Option, none}
use native.Mathlib.Omega.{arith}
use lib.ListN.{length, take, drop}
use Rattle.base.specs.Refusals.{first_refusal}
use Rattle.manifest.specs.Package.{read_package}
use Rattle.manifest.specs.Refused.{package_refusals}
use Rattle.model.specs.State.{Store, transferred}
use Rattle.model.specs.Areas as areas
use Rattle.model.specs.Sound.{packages_most}
use Rattle.model.specs.Calls.{transfer_exit}
use Rattle.model.specs.Step.{own_refusals, refusals, act, exit_refusals}
use Rattle.model.proofs.soundness.Accepted.{passed_over, accepted-sound}
use Rattle.model.proofs.soundness.Packages.{found-known, found-is}
use Rattle.model.proofs.store.AreaStart.{area-at-start}
use Rattle.state.specs.declared.package.PackageState.TheVariants.{Transferred}
use Rattle.state.specs.declared.state.State.{State}
use Rattle.state.specs.View.{view_package, view_packages, view_state}
use Rattle.state.specs.Exact.{in_state}
use Rattle.state.specs.Outcome.{view_outcome}
use Rattle.state.proofs.Outcomes.{view-packages}
use Rattle.areas.specs.Changed.{package_at, with_changed}
use Rattle.areas.specs.Inside.{read_at}
use Rattle.areas.proofs.FoundPackage.{count_fits, FoundAt}
use Rattle.areas.proofs.ChangedPackage.{view-changed}
use Rattle.transfer_exit.specs.Exit.{exited}

-- what is read from the start on that was computed, as many bytes as the size, is the area
pub exit_read : (x : Option ℕ) (start from size : ℕ) (store : Store)
    → x ≡ first_refusal (package_refusals (read_package (take (start + size - start) (drop start store))))
    → start ≡ from → x ≡ first_refusal (package_refusals (read_package (take size (drop from store))))
exit_read x start from size store e same =
    let whole : start + size - start ≡ size = omega arith in
    e ∙ rw (whole, same)

module _ (s : State) (store : Store) (id : ℕ) where
  -- its refusals are the model's
  pub exit_own : (i : ℕ) → FoundAt s store id i
      → first_refusal (own_refusals (view_state s) store (transfer_exit id))
      ≡ first_refusal (exit_refusals (view_package (package_at s.transfers i)) (read_at s.transfers i (package_at s.transfers i) store))
  unfolding own_refusals
  exit_own i found =
      let ps = view_packages s.transfers in
      passed_over _ _ (found-known id ps _ found.known)
      ∙ rw (found-is id ps _ found.known, area-at-start id ps _ store found.known, found.start)

  -- what is given is the model's
  pub view-exited : length s.transfers.packages ≡ packages_most → first_refusal (refusals (view_state s) store (transfer_exit id)) ≡ none
      → view_outcome (exited s store id) ≡ act (view_state s) store (transfer_exit id)
  unfolding act
  view-exited long h =
      let few = count_fits s store (accepted-sound (view_state s) store (transfer_exit id) h) in
      view-packages s store (with_changed id (in_state Transferred) s.transfers) _ store
      (view-changed s.transfers few long id (in_state Transferred) (areas.in_state transferred) λ p. refl)

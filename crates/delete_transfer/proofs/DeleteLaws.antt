-- DeleteTransfer on the structs and in the model: its refusals are the model's, and what is given where none applies is seen as the
-- model's. Assumes nothing.
use Prim.Native.Nat.{ℕ}
use mathlib.Core.Path.{◌≡◌, ◌∙◌}
use mathlib.Core.Option.{none}
use Rattle.base.specs.Refusals.{first_refusal}
use Rattle.model.specs.State.{Store}
use Rattle.model.specs.Calls.{delete_transfer}
use Rattle.model.specs.Step.{own_refusals, refusals, act, delete_refusals}
use Rattle.model.proofs.soundness.Accepted.{passed_over, accepted-sound}
use Rattle.model.proofs.soundness.Packages.{found-known, found-is}
use Rattle.state.specs.declared.state.State.{State}
use Rattle.state.specs.View.{view_package_state, view_packages, view_state}
use Rattle.state.specs.Outcome.{view_outcome}
use Rattle.state.proofs.Outcomes.{view-packages}
use Rattle.areas.specs.declared.deletion.Deletion.TheVariants.{WithId}
use Rattle.areas.specs.Deletion.{remaining_transfers}
use Rattle.areas.specs.Changed.{package_at}
use Rattle.areas.proofs.FoundPackage.{count_fits, FoundAt}
use Rattle.areas.proofs.Kept.{view-remaining}
use Rattle.delete_transfer.specs.Delete.{without_transfer}

module _ (s : State) (store : Store) (id : ℕ) where
  -- its refusals are the model's
  pub delete-own : (i : ℕ) → FoundAt s store id i
      → first_refusal (own_refusals (view_state s) store (delete_transfer id)) ≡ first_refusal (delete_refusals (view_package_state (package_at s.transfers i).state))
  unfolding own_refusals
  delete-own i found =
      let ps = view_packages s.transfers in
      passed_over _ _ (found-known id ps _ found.known) ∙ rw (found-is id ps _ found.known)

  -- what is given is the model's
  pub view-without : first_refusal (refusals (view_state s) store (delete_transfer id)) ≡ none
      → view_outcome (without_transfer s store id) ≡ act (view_state s) store (delete_transfer id)
  unfolding act
  view-without h =
      let few = count_fits s store (accepted-sound (view_state s) store (delete_transfer id) h) in
      view-packages s store (remaining_transfers (WithId id) s.transfers) _ _ (view-remaining (WithId id) s.transfers few)

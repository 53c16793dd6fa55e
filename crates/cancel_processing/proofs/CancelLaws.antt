-- Cancel on the structs and in the model: its refusal is the model's, and what an accepted call gives is seen as the model's.
-- Assumes nothing.
use Prim.Native.Nat.{ℕ}
use mathlib.Core.Path.{◌≡◌, refl, ◌∙◌}
use mathlib.Core.Bool.{true, false, not, and-false}
use mathlib.Core.Option.{none}
use lib.Dec.{eqb}
use Rattle.base.specs.Refusals.{first_refusal}
use Rattle.base.proofs.RefusalNumbers.{not_equal, not-unequal}
use Rattle.model.specs.State.{Store}
use Rattle.model.specs.Areas.{processing_id}
use Rattle.model.specs.Calls.{cancel}
use Rattle.model.specs.Calls as calls
use Rattle.model.specs.Step.{own_refusals, refusals, act}
use Rattle.state.specs.declared.work.Work.{Work}
use Rattle.state.specs.declared.state.State.{State}
use Rattle.state.specs.declared.answer.Answer.TheVariants.{Done}
use Rattle.state.specs.View.{view_packages, is_cleared_work, view_state}
use Rattle.state.specs.Outcome.{view_outcome}
use Rattle.areas.specs.Changed.{package_at}
use Rattle.areas.proofs.InProcessing.{accepted-kept, InProcessing}
use Rattle.state.proofs.GiveWork.{view-with-work}
use Rattle.cancel_processing.specs.Cancel.{with_cancel_noted, cancel_noted}

-- "4. InvalidTransferId: .. or Cancel names another than the one processing.", by the package at the place
module _ (s : State) (store : Store) (id i : ℕ) (here : InProcessing s store i) where
  pub other-id : (id ≡ (package_at s.transfers i).id → ⊥) → not (eqb id (processing_id (view_packages s.transfers))) ≡ true
  other-id e = rw (← here.id) (not-unequal _ _ e)

  pub own-id : id ≡ (package_at s.transfers i).id → first_refusal (own_refusals (view_state s) store (cancel id)) ≡ none
  unfolding own_refusals first_refusal
  own-id e = rw (not_equal id (processing_id (view_packages s.transfers)) (e ∙ here.id))

-- a noted cancel is not cleared
noted-kept : (w : Work) → is_cleared_work (with_cancel_noted w) ≡ false
unfolding is_cleared_work
noted-kept w = simp and-false

-- what is given is the model's
pub view-noted : (s : State) (store : Store) (id : ℕ) → first_refusal (refusals (view_state s) store (cancel id)) ≡ none
    → view_outcome (cancel_noted s store) ≡ act (view_state s) store (cancel id)
unfolding act
view-noted s store id h =
    rw (accepted-kept s store (cancel id) refl h)
    (view-with-work s store (with_cancel_noted s.work) Done calls.done refl (noted-kept s.work))

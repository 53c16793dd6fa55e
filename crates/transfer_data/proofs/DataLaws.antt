-- TransferData on the structs and in the model: its refusals are the model's, where none applies the block has bytes and fits, it is
-- written where the model puts it, and what is then given is seen as the model's. Assumes nothing.
use Prim.Native.Nat.{ℕ, ◌+◌, ◌-◌, ◌≤◌}
use mathlib.Core.Path.{◌≡◌, refl, sym, ap, ◌∙◌}
use mathlib.Core.Bool.{Bool, false, ◌||◌}
use mathlib.Core.List.{List}
use mathlib.Core.Option.{none}
use native.Mathlib.Omega.{arith}
use lib.Dec.{ltb}
use lib.ListN.{length, take}
use borrow.Author.Tests.{lt-ltb, le-ltb, ltb-true, ltb-false}
use Rattle.std.specs.Prelude.{Result, Ok}
use Rattle.base.specs.Refusals.{first_refusal}
use Rattle.base.proofs.Tests.{or_left_false, or_right_false, bool_cases}
use Rattle.refusal.specs.declared.Refusal.{Refusal}
use Rattle.refusal.specs.Number.{refused_with}
use Rattle.model.specs.State.{Store}
use Rattle.model.specs.Areas.{declared, overwritten, block_put}
use Rattle.model.specs.Areas as areas
use Rattle.model.specs.Sound.{packages_most}
use Rattle.model.specs.Calls.{transfer_data}
use Rattle.model.specs.Step.{own_refusals, refusals, act, data_refusals}
use Rattle.model.proofs.soundness.Accepted.{first-passed, rest-passed, passed_over, accepted-sound}
use Rattle.model.proofs.soundness.Packages.{found-known, found-is}
use Rattle.model.proofs.store.AreaStart.{block-at-start}
use Rattle.state.specs.declared.state.State.{State}
use Rattle.state.specs.declared.answer.Answer.TheVariants.{Done}
use Rattle.state.specs.View.{view_package, view_packages, view_state}
use Rattle.state.specs.Exact.{with_block}
use Rattle.state.specs.Outcome.{Outcome, view_outcome}
use Rattle.state.proofs.Outcomes.{view-packages}
use Rattle.state.proofs.Ways.{told-passed}
use Rattle.areas.specs.Changed.{package_at, with_changed}
use Rattle.areas.proofs.FoundPackage.{count_fits, FoundAt}
use Rattle.areas.proofs.ChangedPackage.{view-changed, given-at}
use Rattle.store.specs.Positions.{written}
use Rattle.store.proofs.PositionLaws.{written-inside}
use Rattle.transfer_data.specs.Data.{BlockFits, block_received_at, block_received}

-- "data empty, or data past the declared size": by what is left of the size
pub incorrect-size : (size received n : ℕ) (b : Bool) → received ≤ size → ltb n 1 || ltb (size - received) n ≡ b
    → ltb n 1 || ltb size (received + n) ≡ b
incorrect-size size received n b within e =
    let left : ltb size (received + n) ≡ ltb (size - received) n =
    bool_cases (ltb (size - received) n) (λ h. rw h (lt-ltb size (received + n) (omega (arith, ltb-true (size - received) n h))))
    λ h. rw h (le-ltb size (received + n) (omega (arith, ltb-false (size - received) n h))) in
    rw left e

-- where none applies the block has bytes and fits
pub block-fits : (s : State) (store : Store) (id i counter size : ℕ) (r : Result (Unit {0}) Refusal) (value : Unit {0}) → FoundAt s store id i
    → refused_with r ≡ first_refusal (data_refusals (view_package (package_at s.transfers i)) counter size) → r ≡ Ok value
    → BlockFits s.transfers i (package_at s.transfers i) (length store) size
block-fits s store id i counter size r value found told e =
    let p = package_at s.transfers i in
    let past = ltb p.size (p.received + size) in
    let passed : ltb size 1 || past ≡ false = first-passed _ _ (rest-passed _ _ (rest-passed _ _ (told-passed _ _ r told refl value e))) in
    record {
      inside = found.inside;
      some = ltb-false size 1 (or_left_false (ltb size 1) past passed);
      fits = ltb-false p.size (p.received + size) (or_right_false (ltb size 1) past passed);
      blocks = found.blocks;
    }

-- the block is put behind the start that was computed
pub block_at : (start start' received : ℕ) (block : List ℕ) (store store' : Store) → start' ≡ start → store' ≡ written (start' + received) block store
    → store' ≡ written (start + received) block store
block_at start start' received block store store' e f = f ∙ ap (λ (n : ℕ). written (n + received) block store) e

module _ (s : State) (store : Store) (id : ℕ) (block : List ℕ) where
  -- its refusals are the model's
  pub data-own : (i counter : ℕ) → FoundAt s store id i
      → first_refusal (own_refusals (view_state s) store (transfer_data id counter block)) ≡ first_refusal (data_refusals (view_package (package_at s.transfers i)) counter (length block))
  unfolding own_refusals
  data-own i counter found =
      let ps = view_packages s.transfers in
      passed_over _ _ (found-known id ps _ found.known) ∙ rw (found-is id ps _ found.known)

  -- a block accepted at the place of its package is accepted by the id
  pub data-given : (i : ℕ) (given : Outcome) → FoundAt s store id i
      → BlockFits s.transfers i (package_at s.transfers i) (length store) (length block)
      → given ≡ block_received_at s store i (package_at s.transfers i) block → given ≡ block_received s store id block
  unfolding block_received_at
  data-given i given found fits e =
      let p = package_at s.transfers i in
      let start = declared (take i (view_packages s.transfers)) in
      let put : written (start + p.received) block store ≡ block_put id block (view_packages s.transfers) store =
      written-inside (start + p.received) block store (omega arith)
      ∙ ap (λ (n : ℕ). overwritten (n + p.received) block store) (sym found.start)
      ∙ sym (block-at-start id block (view_packages s.transfers) (view_package p) store found.known) in
      e ∙ given-at s store id i (with_block (length block)) Done _ _ _ found refl put

  -- what is given is the model's
  pub view-received : (counter : ℕ) → length s.transfers.packages ≡ packages_most
      → first_refusal (refusals (view_state s) store (transfer_data id counter block)) ≡ none
      → view_outcome (block_received s store id block) ≡ act (view_state s) store (transfer_data id counter block)
  unfolding act
  view-received counter long h =
      let few = count_fits s store (accepted-sound (view_state s) store (transfer_data id counter block) h) in
      view-packages s store (with_changed id (with_block (length block)) s.transfers) _ _
      (view-changed s.transfers few long id (with_block (length block)) (areas.with_block (length block)) λ p. refl)

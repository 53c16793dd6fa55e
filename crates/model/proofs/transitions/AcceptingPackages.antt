-- The calls of the packages, TransferStart to Process: where none of a call's own refusals applies, it is one of the accepted
-- transitions. Assumes nothing.
use mathlib.Core.Path.{◌≡◌}
use mathlib.Core.List.{List}
use mathlib.Core.Option.{none}
use Prim.Native.Nat.{ℕ}
use lib.Dec.{ltb}
use lib.ListN.{length}
use borrow.Author.Tests.{ltb-false, leb-false, eqb-true, not-false}
use Rattle.base.specs.Refusals.{first_refusal}
use Rattle.base.proofs.Refusals.{none-accepted}
use Rattle.base.proofs.Tests.{or_left_false, or_right_false}
use Rattle.actions.specs.Refusals.{passes}
use Rattle.model.specs.State.{State, Store}
use Rattle.model.specs.Calls.{transfer_start, transfer_data, transfer_exit, delete_transfer, process}
use Rattle.model.specs.Areas.{package_of, is_being_processed}
use Rattle.model.specs.Step.{manifest_of, area_read, own_refusals, act}
use Rattle.model.specs.Accepted.{AtRest, Accepted, starts, puts_block, exits, deletes, processes}
use Rattle.model.proofs.soundness.Packages.{known_is}
use Rattle.model.proofs.soundness.Accepted.{first-passed, rest-passed, read_is}
use Rattle.model.proofs.transitions.Passing.{passing}

module _ (s : State) (store : Store) where
  pub start_is : (size : ℕ) → first_refusal (own_refusals s store (transfer_start size)) ≡ none
      → Accepted s store (transfer_start size) (act s store (transfer_start size))
  unfolding act own_refusals
  start_is size h =
      let h16 = rest-passed _ _ h in
      let h17 = rest-passed _ _ h16 in
      let h18 = rest-passed _ _ h17 in
      starts size (ltb-false _ _ (first-passed _ _ h)) (leb-false _ _ (first-passed _ _ h16))
      (ltb-false _ _ (first-passed _ _ h17)) (ltb-false _ _ (first-passed _ _ h18))

  pub block-is : (id counter : ℕ) (block : List ℕ) → first_refusal (own_refusals s store (transfer_data id counter block)) ≡ none
      → Accepted s store (transfer_data id counter block) (act s store (transfer_data id counter block))
  unfolding act own_refusals
  block-is id counter block h =
      let ps = s.transfers.packages in
      let p = package_of id ps in
      let h5 = rest-passed _ _ h in
      let h6 = rest-passed _ _ h5 in
      let h7 = first-passed _ _ (rest-passed _ _ h6) in
      puts_block id counter block p (known_is id ps (first-passed _ _ h)) (not-false _ (first-passed _ _ h5))
      (eqb-true _ _ (not-false _ (first-passed _ _ h6)))
      (ltb-false _ _ (or_left_false _ _ h7)) (ltb-false _ _ (or_right_false (ltb (length block) 1) _ h7))

  pub exit-is : (id : ℕ) → first_refusal (own_refusals s store (transfer_exit id)) ≡ none
      → Accepted s store (transfer_exit id) (act s store (transfer_exit id))
  unfolding act own_refusals
  exit-is id h =
      let ps = s.transfers.packages in
      let h5 = rest-passed _ _ h in
      let h8 = rest-passed _ _ h5 in
      let h9 = rest-passed _ _ h8 in
      exits id (package_of id ps) _ (known_is id ps (first-passed _ _ h)) (not-false _ (first-passed _ _ h5))
      (ltb-false _ _ (first-passed _ _ h8))
      (read_is (area_read s store id) (first-passed _ _ h9) (first-passed _ _ (rest-passed _ _ h9)))

  pub delete-is : (id : ℕ) → first_refusal (own_refusals s store (delete_transfer id)) ≡ none
      → Accepted s store (delete_transfer id) (act s store (delete_transfer id))
  unfolding act own_refusals
  delete-is id h =
      let ps = s.transfers.packages in
      let h5 = first-passed _ _ (rest-passed _ _ h) in
      deletes id (package_of id ps) (known_is id ps (first-passed _ _ h)) (or_left_false _ _ h5)
      (or_right_false (is_being_processed (package_of id ps).state) _ h5)

  pub process-is : (id : ℕ) → AtRest s.phase → first_refusal (own_refusals s store (process id)) ≡ none
      → Accepted s store (process id) (act s store (process id))
  unfolding act own_refusals passes
  process-is id rest h =
      let ps = s.transfers.packages in
      let h5 = rest-passed _ _ h in
      let h9 = rest-passed _ _ h5 in
      let h10 = rest-passed _ _ h9 in
      processes id (package_of id ps) (manifest_of (area_read s store id)) rest (known_is id ps (first-passed _ _ h))
      (not-false _ (first-passed _ _ h5))
      (read_is (area_read s store id) (first-passed _ _ h9) (first-passed _ _ h10))
      (passing _ _ _ (none-accepted _ (rest-passed _ _ h10)))

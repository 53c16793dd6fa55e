-- Every accepted call leaves a sound state and store, from any store bytes, and the store's length. Assumes nothing.
use mathlib.Core.Path.{◌≡◌, refl, sym, ap, ◌∙◌}
use mathlib.Core.Bool.{Bool, true, false, not}
use mathlib.Core.List.{List}
use mathlib.Core.Option.{Option, none, some}
use Prim.Native.Nat.{ℕ, ◌+◌}
use native.Mathlib.Omega.{arith}
use lib.Dec.{eqb, ltb}
use lib.ListN.{length}
use borrow.Author.Tests.{ltb-false, leb-false, not-false}
use Rattle.base.specs.Refusals.{first_refusal}
use Rattle.base.proofs.Tests.{or_left_false, or_right_false, cond_cases}
use Rattle.base.proofs.Refusals.{none-accepted}
use Rattle.checksum.specs.Sum.{sum_number}
use Rattle.actions.specs.Refusals.{passes}
use Rattle.manifest.proofs.Within.{read_package-within}
use Rattle.model.specs.State.{transferred, Package, cleaning_up, ready_cleans_up, activating, rolling_back, is_processing, Work, State, state, Store}
use Rattle.model.specs.Calls.{Call, done, transfer_start, transfer_data, transfer_exit, delete_transfer, process, work, cancel, revert, activate, rollback, finish, report}
use Rattle.model.specs.Areas.{package_of, area_of, in_state, with_block, is_transferring, is_being_processed, is_processed, processing_id, find}
use Rattle.model.specs.Sound.{sound, kept_sound}
use Rattle.model.specs.Step.{Outcome, moves_to, outcome, with_cancel_noted, area_read, manifest_of, own_refusals, further_refusals, refusals, work_on, taken, sum_compared, worked, act, unless_refused, step}
use Rattle.model.proofs.soundness.SoundFacts.{Sound, sound-says, sound-is}
use Rattle.model.proofs.soundness.Packages.{Fine, known_is, found-fine}
use Rattle.model.proofs.soundness.FinePackage.{transferring-is, transferred-is, part, fine-in-state, fine-with-block}
use Rattle.model.proofs.soundness.Counts.{keeps-others}
use Rattle.model.proofs.store.StoreLength.{length-block-put, length-deleted, length-area}
use Rattle.model.proofs.soundness.Accepted.{first-passed, rest-passed, accepted-sound, accepted-allowed, accepted-own, read_is}
use Rattle.model.proofs.soundness.SoundTransfers.{started-sound, kept-by-sound, changed-alone-sound}
use Rattle.model.proofs.soundness.SoundProcessing.{begun-sound, continued-sound, noted-sound, left-sound, processed-sound}
use Rattle.model.proofs.soundness.SoundSession.{rests-where, moved-sound, report-sound}

-- state and store of an outcome are sound
abbrev pub SoundAfter : Outcome → Type 0
SoundAfter o = Sound o.state o.store

module _ (s : State) (store : Store) (ok : Sound s store) where
  -- ---- transfers

  start-kept : (size : ℕ) → first_refusal (own_refusals s store (transfer_start size)) ≡ none → SoundAfter (act s store (transfer_start size))
  unfolding own_refusals act
  start-kept size h =
      let h16 = rest-passed _ _ h in
      let h17 = rest-passed _ _ h16 in
      let h18 = rest-passed _ _ h17 in
      started-sound s store ok size
      (ltb-false _ _ (first-passed _ _ h))
      (leb-false _ _ (first-passed _ _ h16))
      (ltb-false _ _ (first-passed _ _ h17))
      (ltb-false _ _ (first-passed _ _ h18))

  data-kept : (id counter : ℕ) (block : List ℕ) → first_refusal (own_refusals s store (transfer_data id counter block)) ≡ none
      → SoundAfter (act s store (transfer_data id counter block))
  unfolding own_refusals act
  data-kept id counter block h =
      let ps = s.transfers.packages in
      let p = package_of id ps in
      let h5 = rest-passed _ _ h in
      let h6 = rest-passed _ _ h5 in
      let h7 = rest-passed _ _ h6 in
      let e : find id ps ≡ some p = known_is id ps (first-passed _ _ h) in
      let is : is_transferring p.state ≡ true = not-false _ (first-passed _ _ h5) in
      let o = or_left_false (ltb (length block) 1) _ (first-passed _ _ h7) in
      let l = or_right_false (ltb (length block) 1) (ltb p.size (p.received + length block)) (first-passed _ _ h7) in
      changed-alone-sound s store ok id (with_block (length block)) (λ q. refl) (λ q. refl) p e
      (fine-with-block p (length block) s.transfers.next is (ltb-false _ _ o) (ltb-false _ _ l))
      _ (length-block-put id block ps p store e (ltb-false _ _ l) ok.fit) refl refl

  exit-kept : (id : ℕ) → first_refusal (own_refusals s store (transfer_exit id)) ≡ none → SoundAfter (act s store (transfer_exit id))
  unfolding own_refusals act
  exit-kept id h =
      let ps = s.transfers.packages in
      let p = package_of id ps in
      let h5 = rest-passed _ _ h in
      let h8 = rest-passed _ _ h5 in
      let e : find id ps ≡ some p = known_is id ps (first-passed _ _ h) in
      let is : is_transferring p.state ≡ true = not-false _ (first-passed _ _ h5) in
      let fine : Fine s.transfers.next p = found-fine 0 s.transfers.next id ps p ok.rise e in
      let all : p.received ≡ p.size = omega (arith, part p is fine.received, ltb-false p.received p.size (first-passed _ _ h8)) in
      changed-alone-sound s store ok id (in_state transferred) (λ q. refl) (λ q. refl) p e
      (fine-in-state p transferred s.transfers.next all)
      store refl (sym (ap is_processed (transferring-is p.state is))) (sym (ap is_being_processed (transferring-is p.state is)))

  delete-kept : (id : ℕ) → first_refusal (own_refusals s store (delete_transfer id)) ≡ none → SoundAfter (act s store (delete_transfer id))
  unfolding own_refusals act
  delete-kept id h =
      let ps = s.transfers.packages in
      let p = package_of id ps in
      let next = s.transfers.next in
      let keeps : Package → Bool = λ q. not (eqb id q.id) in
      let h5 = first-passed _ _ (rest-passed _ _ h) in
      let e : find id ps ≡ some p = known_is id ps (first-passed _ _ h) in
      kept-by-sound s store ok keeps _ (length-deleted keeps ps store ok.fit)
      (keeps-others is_processed id 0 next ps p ok.rise e (or_right_false (is_being_processed p.state) _ h5))
      (keeps-others is_being_processed id 0 next ps p ok.rise e (or_left_false (is_being_processed p.state) _ h5))

  -- ---- processing

  process-kept : (id : ℕ) → is_processing s.phase ≡ false → first_refusal (own_refusals s store (process id)) ≡ none
      → SoundAfter (act s store (process id))
  unfolding own_refusals act passes
  process-kept id outside h =
      let ps = s.transfers.packages in
      let p = package_of id ps in
      let read = area_read s store id in
      let h5 = rest-passed _ _ h in
      let h9 = rest-passed _ _ h5 in
      let h10 = rest-passed _ _ h9 in
      let h11 = rest-passed _ _ h10 in
      let e : find id ps ≡ some p = known_is id ps (first-passed _ _ h) in
      let is = transferred-is p.state (not-false _ (first-passed _ _ h5)) in
      let within = read_package-within (area_of id ps store) (manifest_of read) (read_is read (first-passed _ _ h9) (first-passed _ _ h10)) in
      begun-sound s store ok id p (manifest_of read) outside e is
      within.0 (none-accepted _ h11) (within.1 ∙ length-area id ps p store e ok.fit) within.3

  compared-kept : (w : Work) → kept_sound s.phase s.session s.transfers.packages (some w) ≡ true
      → SoundAfter (sum_compared s store w)
  unfolding sum_compared
  compared-kept w k =
      cond_cases SoundAfter (eqb (sum_number w.running_sums) w.sum) _ _ (λ b. processed-sound s store ok w k) λ b. left-sound s store ok w k

  worked_kept : (w : Work) (n : ℕ) → kept_sound s.phase s.session s.transfers.packages (some w) ≡ true
      → SoundAfter (worked s store w n)
  unfolding worked
  worked_kept w n k =
      let area = area_of (processing_id s.transfers.packages) s.transfers.packages store in
      let on = continued-sound s store ok w k n area in
      cond_cases SoundAfter w.cancel_noted _ _ (λ b. left-sound s store ok w k) λ b.
      cond_cases SoundAfter (ltb (w.done + taken w n) w.count) _ _ (λ l. on) λ l. compared-kept (work_on w n area) on.kept_values

  work-kept : (n : ℕ) → SoundAfter (act s store (work n))
  unfolding act
  work-kept n = go s.work ok.kept_values
    where
      go : (o : Option Work) → kept_sound s.phase s.session s.transfers.packages o ≡ true
          → SoundAfter (elim o [ none ↦ moves_to s store s.phase done | some w ↦ worked s store w n ])
      go none k = ok
      go (some w) k = worked_kept w n k

  cancel-kept : (id : ℕ) → SoundAfter (act s store (cancel id))
  unfolding act
  cancel-kept id = go s.work ok.kept_values
    where
      go : (o : Option Work) → kept_sound s.phase s.session s.transfers.packages o ≡ true
          → SoundAfter (elim o [ none ↦ moves_to s store s.phase done | some w ↦ outcome done (state s.phase s.transfers s.session (some (with_cancel_noted w))) store ])
      go none k = ok
      go (some w) k = noted-sound s store ok w k

-- ---- the manager's state

module _ (s : State) (store : Store) where
  -- Process is not refused as busy
  process-outside : (id : ℕ) → first_refusal (refusals s store (process id)) ≡ none → is_processing s.phase ≡ false
  unfolding refusals further_refusals
  process-outside id h = first-passed _ _ (rest-passed _ _ h)

  by_call : (call : Call) → Sound s store → first_refusal (refusals s store call) ≡ none → SoundAfter (act s store call)
  unfolding act
  by_call (transfer_start size) ok h = start-kept s store ok size (accepted-own s store (transfer_start size) h)
  by_call (transfer_data id counter block) ok h = data-kept s store ok id counter block (accepted-own s store (transfer_data id counter block) h)
  by_call (transfer_exit id) ok h = exit-kept s store ok id (accepted-own s store (transfer_exit id) h)
  by_call (delete_transfer id) ok h = delete-kept s store ok id (accepted-own s store (delete_transfer id) h)
  by_call (process id) ok h = process-kept s store ok id (process-outside id h) (accepted-own s store (process id) h)
  by_call (work n) ok h = work-kept s store ok n
  by_call (cancel id) ok h = cancel-kept s store ok id
  by_call revert ok h = moved-sound s store ok (cleaning_up ready_cleans_up) (rests-where revert refl s.phase (accepted-allowed s store revert h)) refl
  by_call activate ok h = moved-sound s store ok activating (rests-where activate refl s.phase (accepted-allowed s store activate h)) refl
  by_call rollback ok h = moved-sound s store ok (rolling_back _) (rests-where rollback refl s.phase (accepted-allowed s store rollback h)) refl
  by_call finish ok h = moved-sound s store ok (cleaning_up _) (rests-where finish refl s.phase (accepted-allowed s store finish h)) refl
  by_call (report good) ok h = report-sound s store ok s.phase refl good

  pub kept-sound : (call : Call) → first_refusal (refusals s store call) ≡ none
      → sound (act s store call).state (act s store call).store ≡ true
  kept-sound call h = sound-is _ _ (by_call call (sound-says s store (accepted-sound s store call h)) h)

  -- and every call keeps soundness
  pub step-sound : (call : Call) → sound s store ≡ true → sound (step s store call).state (step s store call).store ≡ true
  unfolding step
  step-sound call h = go (first_refusal (refusals s store call)) refl
    where
      go : (o : Option ℕ) → first_refusal (refusals s store call) ≡ o
          → sound (unless_refused s store o (act s store call)).state (unless_refused s store o (act s store call)).store ≡ true
      go none e = kept-sound call e
      go (some number) e = h

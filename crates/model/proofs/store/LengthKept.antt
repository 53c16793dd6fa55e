-- An accepted call leaves the store's length, and so does every call. Assumes nothing.
use mathlib.Core.Path.{◌≡◌, refl}
use mathlib.Core.Bool.{Bool, true, false, not}
use mathlib.Core.Option.{Option, none, some}
use Prim.Native.Nat.{ℕ, ◌+◌}
use lib.Dec.{eqb, ltb}
use lib.ListN.{length}
use borrow.Author.Tests.{ltb-false}
use Rattle.base.specs.Refusals.{first_refusal}
use Rattle.base.proofs.Tests.{or_right_false, cond_cases}
use Rattle.checksum.specs.Sum.{sum_number}
use Rattle.clusters.specs.Table.{Table}
use Rattle.model.specs.State.{Phase, idle, ready, processing, activating, verifying, activated, rolling_back, rolled_back, cleaning_up, ready_cleans_up, activated_cleans_up, rolled_back_cleans_up, Work, State, state, Store}
use Rattle.model.specs.Calls.{Call, done, transfer_start, transfer_data, transfer_exit, delete_transfer, process, work, cancel, revert, activate, rollback, finish, report}
use Rattle.model.specs.Areas.{package_of, area_of, is_processed, processing_id}
use Rattle.model.specs.Step.{Outcome, outcome, moves_to, with_cancel_noted, work_on, taken, sum_compared, worked, cleaned_up, report_outcome, own_refusals, refusals, act, unless_refused, step}
use Rattle.model.proofs.soundness.SoundFacts.{Sound, sound-says}
use Rattle.model.proofs.soundness.Packages.{known_is}
use Rattle.model.proofs.store.StoreLength.{length-block-put, length-deleted}
use Rattle.model.proofs.soundness.Accepted.{first-passed, rest-passed, accepted-sound, accepted-own}

module _ (s : State) (store : Store) where
  -- an outcome's store is as long as the call's
  abbrev AsLong : Outcome → Type 0
  AsLong o = length o.store ≡ length store

  worked-long : (w : Work) (n : ℕ) → AsLong (worked s store w n)
  unfolding worked sum_compared
  worked-long w n =
      let after = work_on w n (area_of (processing_id s.transfers.packages) s.transfers.packages store) in
      cond_cases AsLong w.cancel_noted _ _ (λ b. refl) λ b.
      cond_cases AsLong (ltb (w.done + taken w n) w.count) _ _ (λ l. refl) λ l.
      cond_cases AsLong (eqb (sum_number after.running_sums) after.sum) _ _ (λ e. refl) λ e. refl

  module _ (ok : Sound s store) where
    cleaned-long : (table : Table) → AsLong (cleaned_up s store table)
    unfolding cleaned_up
    cleaned-long table = length-deleted (λ p. not (is_processed p.state)) s.transfers.packages store ok.fit

    report-long : (phase : Phase) (good : Bool) → AsLong (report_outcome s store phase good)
    unfolding report_outcome
    report-long (cleaning_up ready_cleans_up) true = cleaned-long _
    report-long (cleaning_up activated_cleans_up) true = cleaned-long _
    report-long (cleaning_up rolled_back_cleans_up) true = cleaned-long _
    report-long (cleaning_up ready_cleans_up) false = refl
    report-long (cleaning_up activated_cleans_up) false = refl
    report-long (cleaning_up rolled_back_cleans_up) false = refl
    report-long verifying true = refl
    report-long verifying false = refl
    report-long (rolling_back origin) true = refl
    report-long (rolling_back origin) false = refl
    report-long activating good = refl
    report-long idle good = refl
    report-long ready good = refl
    report-long processing good = refl
    report-long activated good = refl
    report-long rolled_back good = refl

    by_call : (call : Call) → first_refusal (own_refusals s store call) ≡ none → AsLong (act s store call)
    unfolding act own_refusals
    by_call (transfer_data id counter block) h =
        let ps = s.transfers.packages in
        let p = package_of id ps in
        let h7 = rest-passed _ _ (rest-passed _ _ (rest-passed _ _ h)) in
        let l = or_right_false (ltb (length block) 1) (ltb p.size (p.received + length block)) (first-passed _ _ h7) in
        length-block-put id block ps p store (known_is id ps (first-passed _ _ h)) (ltb-false _ _ l) ok.fit
    by_call (delete_transfer id) h = length-deleted (λ p. not (eqb id p.id)) s.transfers.packages store ok.fit
    by_call (report good) h = report-long s.phase good
    by_call (work n) h = go s.work
      where
        go : (o : Option Work) → AsLong (elim o [ none ↦ moves_to s store s.phase done | some w ↦ worked s store w n ])
        go none = refl
        go (some w) = worked-long w n
    by_call (cancel id) h = go s.work
      where
        go : (o : Option Work)
            → AsLong (elim o [ none ↦ moves_to s store s.phase done | some w ↦ outcome done (state s.phase s.transfers s.session (some (with_cancel_noted w))) store ])
        go none = refl
        go (some w) = refl
    by_call (transfer_start size) h = refl
    by_call (transfer_exit id) h = refl
    by_call (process id) h = refl
    by_call revert h = refl
    by_call activate h = refl
    by_call rollback h = refl
    by_call finish h = refl

  pub accepted-keeps-length : (call : Call) → first_refusal (refusals s store call) ≡ none → length (act s store call).store ≡ length store
  accepted-keeps-length call h = by_call (sound-says s store (accepted-sound s store call h)) call (accepted-own s store call h)

  pub step-keeps-length : (call : Call) → length (step s store call).store ≡ length store
  unfolding step
  step-keeps-length call = go (first_refusal (refusals s store call)) refl
    where
      go : (o : Option ℕ) → first_refusal (refusals s store call) ≡ o → length (unless_refused s store o (act s store call)).store ≡ length store
      go none e = accepted-keeps-length call e
      go (some number) e = refl

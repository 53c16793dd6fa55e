-- A call of which no refusal applies is one of the accepted transitions: `accepted-is`. Assumes nothing.
use mathlib.Core.Path.{◌≡◌, refl, sym, subst, ◌∙◌}
use mathlib.Core.Bool.{Bool, true, false, false≢true}
use mathlib.Core.Option.{Option, none, some}
use Prim.Native.Nat.{ℕ, ◌+◌}
use lib.Dec.{eqb, ltb}
use borrow.Author.Tests.{ltb-true, ltb-false, eqb-true, not-false}
use Rattle.base.specs.Refusals.{first_refusal}
use Rattle.base.proofs.Tests.{bool_cases, cond_cases}
use Rattle.checksum.specs.Sum.{sum_number}
use Rattle.clusters.specs.Table.{needs_met}
use Rattle.model.specs.State.{RollbackOrigin, CleanUpOrigin, ready_cleans_up, activated_cleans_up, rolled_back_cleans_up, Phase, idle, ready, processing, activating, verifying, activated, rolling_back, rolled_back, cleaning_up, Transfers, Session, Work, State, state, Store}
use Rattle.model.specs.Calls.{Call, transfer_start, transfer_data, transfer_exit, delete_transfer, process, work, cancel, revert, activate, rollback, finish, report}
use Rattle.model.specs.Permissions.{allowed}
use Rattle.model.specs.Areas.{area_of, processing_id}
use Rattle.model.specs.Tables.{staged}
use Rattle.model.specs.Sound.{kept_sound}
use Rattle.model.specs.Step.{Outcome, own_refusals, refusals, taken, work_on, sum_compared, worked, report_outcome, act}
use Rattle.model.specs.Accepted.{AtRest, in_idle, in_ready, reverts, activates, rolls_back_verifying, rolls_back_activated, finishes_activated, finishes_rolled_back, activation_fails, needs_missing, activation_succeeds, verification_succeeds, verification_fails, rollback_succeeds, rollback_fails, revert_fails, cleaning_activated_fails, cleaning_rolled_back_fails, after_revert, after_finish, after_rollback, by_cancel, by_sum, Accepted, works_on, leaves, completes, cancels, moves, ends}
use Rattle.model.proofs.soundness.SoundFacts.{sound-says}
use Rattle.model.proofs.soundness.Accepted.{first-passed, accepted-sound, accepted-allowed, accepted-own}
use Rattle.model.proofs.transitions.AcceptingPackages.{start_is, block-is, exit-is, delete-is, process-is}

-- Process is allowed in Idle and Ready
may-process : (phase : Phase) (id : ℕ) → allowed phase (process id) ≡ true → AtRest phase
unfolding allowed
may-process phase id = elim phase as (λ p. allowed p (process id) ≡ true → AtRest p) [
  | idle ↦ λ e. in_idle
  | ready ↦ λ e. in_ready
  | processing ↦ λ e. absurd (false≢true e)
  | activating ↦ λ e. absurd (false≢true e)
  | verifying ↦ λ e. absurd (false≢true e)
  | activated ↦ λ e. absurd (false≢true e)
  | rolling_back origin ↦ λ e. absurd (false≢true e)
  | rolled_back ↦ λ e. absurd (false≢true e)
  | cleaning_up origin ↦ λ e. absurd (false≢true e)
]

module _ (t : Transfers) (session : Session) (store : Store) where
  abbrev after : Work → ℕ → Work
  after w n = work_on w n (area_of (processing_id t.packages) t.packages store)

  worked-is : (w : Work) (n : ℕ)
      → Accepted (state processing t session (some w)) store (work n) (worked (state processing t session (some w)) store w n)
  unfolding worked sum_compared
  worked-is w n =
      let P : Outcome → Type 0 = Accepted (state processing t session (some w)) store (work n) in
      cond_cases P w.cancel_noted _ _ (λ c. leaves w n (by_cancel c)) λ c.
      cond_cases P (ltb (w.done + taken w n) w.count) _ _ (λ l. works_on w n c (ltb-true _ _ l)) λ l.
      cond_cases P (eqb (sum_number (after w n).running_sums) w.sum) _ _ (λ e. completes w n c (ltb-false _ _ l) e)
      λ e. leaves w n (by_sum c (ltb-false _ _ l) e)

  work-is : (k : Option Work) (n : ℕ) → kept_sound processing session t.packages k ≡ true
      → Accepted (state processing t session k) store (work n) (act (state processing t session k) store (work n))
  unfolding act kept_sound
  work-is none n h = absurd (false≢true h)
  work-is (some w) n h = worked-is w n

  cancel-is : (k : Option Work) (id : ℕ) → kept_sound processing session t.packages k ≡ true
      → first_refusal (own_refusals (state processing t session k) store (cancel id)) ≡ none
      → Accepted (state processing t session k) store (cancel id) (act (state processing t session k) store (cancel id))
  unfolding act kept_sound own_refusals
  cancel-is none id h own = absurd (false≢true h)
  cancel-is (some w) id h own = cancels w id (eqb-true _ _ (not-false _ (first-passed _ _ own)))

  revert-is : (phase : Phase) (k : Option Work) → allowed phase revert ≡ true
      → Accepted (state phase t session k) store revert (act (state phase t session k) store revert)
  unfolding act allowed
  revert-is phase k = elim phase as (λ p. allowed p revert ≡ true → Accepted (state p t session k) store revert (act (state p t session k) store revert)) [
    | idle ↦ λ e. absurd (false≢true e)
    | ready ↦ λ e. moves reverts
    | processing ↦ λ e. absurd (false≢true e)
    | activating ↦ λ e. absurd (false≢true e)
    | verifying ↦ λ e. absurd (false≢true e)
    | activated ↦ λ e. absurd (false≢true e)
    | rolling_back origin ↦ λ e. absurd (false≢true e)
    | rolled_back ↦ λ e. absurd (false≢true e)
    | cleaning_up origin ↦ λ e. absurd (false≢true e)
  ]

  activate-is : (phase : Phase) (k : Option Work) → allowed phase activate ≡ true
      → Accepted (state phase t session k) store activate (act (state phase t session k) store activate)
  unfolding act allowed
  activate-is phase k = elim phase as (λ p. allowed p activate ≡ true → Accepted (state p t session k) store activate (act (state p t session k) store activate)) [
    | idle ↦ λ e. absurd (false≢true e)
    | ready ↦ λ e. moves activates
    | processing ↦ λ e. absurd (false≢true e)
    | activating ↦ λ e. absurd (false≢true e)
    | verifying ↦ λ e. absurd (false≢true e)
    | activated ↦ λ e. absurd (false≢true e)
    | rolling_back origin ↦ λ e. absurd (false≢true e)
    | rolled_back ↦ λ e. absurd (false≢true e)
    | cleaning_up origin ↦ λ e. absurd (false≢true e)
  ]

  rollback-is : (phase : Phase) (k : Option Work) → allowed phase rollback ≡ true
      → Accepted (state phase t session k) store rollback (act (state phase t session k) store rollback)
  unfolding act allowed
  rollback-is phase k = elim phase as (λ p. allowed p rollback ≡ true → Accepted (state p t session k) store rollback (act (state p t session k) store rollback)) [
    | idle ↦ λ e. absurd (false≢true e)
    | ready ↦ λ e. absurd (false≢true e)
    | processing ↦ λ e. absurd (false≢true e)
    | activating ↦ λ e. absurd (false≢true e)
    | verifying ↦ λ e. moves rolls_back_verifying
    | activated ↦ λ e. moves rolls_back_activated
    | rolling_back origin ↦ λ e. absurd (false≢true e)
    | rolled_back ↦ λ e. absurd (false≢true e)
    | cleaning_up origin ↦ λ e. absurd (false≢true e)
  ]

  finish-is : (phase : Phase) (k : Option Work) → allowed phase finish ≡ true
      → Accepted (state phase t session k) store finish (act (state phase t session k) store finish)
  unfolding act allowed
  finish-is phase k = elim phase as (λ p. allowed p finish ≡ true → Accepted (state p t session k) store finish (act (state p t session k) store finish)) [
    | idle ↦ λ e. absurd (false≢true e)
    | ready ↦ λ e. absurd (false≢true e)
    | processing ↦ λ e. absurd (false≢true e)
    | activating ↦ λ e. absurd (false≢true e)
    | verifying ↦ λ e. absurd (false≢true e)
    | activated ↦ λ e. moves finishes_activated
    | rolling_back origin ↦ λ e. absurd (false≢true e)
    | rolled_back ↦ λ e. moves finishes_rolled_back
    | cleaning_up origin ↦ λ e. absurd (false≢true e)
  ]

  activating-is : (k : Option Work) (good : Bool)
      → Accepted (state activating t session k) store (report good) (act (state activating t session k) store (report good))
  unfolding act report_outcome
  activating-is k true = bool_cases (needs_met (staged session)) (λ e. rw e (moves (activation_succeeds e))) λ e. rw e (moves (needs_missing true e))
  activating-is k false = bool_cases (needs_met (staged session)) (λ e. rw e (moves (activation_fails e))) λ e. rw e (moves (needs_missing false e))

  cleaning-up-is : (origin : CleanUpOrigin) (k : Option Work) (good : Bool)
      → Accepted (state (cleaning_up origin) t session k) store (report good) (act (state (cleaning_up origin) t session k) store (report good))
  unfolding act report_outcome
  cleaning-up-is ready_cleans_up k true = ends after_revert
  cleaning-up-is activated_cleans_up k true = ends after_finish
  cleaning-up-is rolled_back_cleans_up k true = ends after_rollback
  cleaning-up-is ready_cleans_up k false = moves revert_fails
  cleaning-up-is activated_cleans_up k false = moves cleaning_activated_fails
  cleaning-up-is rolled_back_cleans_up k false = moves cleaning_rolled_back_fails

  verifying-is : (k : Option Work) (good : Bool)
      → Accepted (state verifying t session k) store (report good) (act (state verifying t session k) store (report good))
  unfolding act report_outcome
  verifying-is k true = moves verification_succeeds
  verifying-is k false = moves verification_fails

  rolling-back-is : (origin : RollbackOrigin) (k : Option Work) (good : Bool)
      → Accepted (state (rolling_back origin) t session k) store (report good) (act (state (rolling_back origin) t session k) store (report good))
  unfolding act report_outcome
  rolling-back-is origin k true = moves (rollback_succeeds origin)
  rolling-back-is origin k false = moves (rollback_fails origin)

  report-is : (phase : Phase) (k : Option Work) (good : Bool) → allowed phase (report good) ≡ true
      → Accepted (state phase t session k) store (report good) (act (state phase t session k) store (report good))
  unfolding act allowed
  report-is phase k good = elim phase as (λ p. allowed p (report good) ≡ true → Accepted (state p t session k) store (report good) (act (state p t session k) store (report good))) [
    | idle ↦ λ e. absurd (false≢true e)
    | ready ↦ λ e. absurd (false≢true e)
    | processing ↦ λ e. absurd (false≢true e)
    | activating ↦ λ e. activating-is k good
    | verifying ↦ λ e. verifying-is k good
    | activated ↦ λ e. absurd (false≢true e)
    | rolling_back origin ↦ λ e. rolling-back-is origin k good
    | rolled_back ↦ λ e. absurd (false≢true e)
    | cleaning_up origin ↦ λ e. cleaning-up-is origin k good
  ]

-- a test that fails in every other state holds in Processing alone
processing-alone : (test : Phase → Bool) → test idle ≡ false → test ready ≡ false → test activating ≡ false → test verifying ≡ false
    → test activated ≡ false → ((origin : RollbackOrigin) → test (rolling_back origin) ≡ false) → test rolled_back ≡ false
    → ((origin : CleanUpOrigin) → test (cleaning_up origin) ≡ false) → (phase : Phase) → test phase ≡ true → phase ≡ processing
processing-alone test i r a v d b l c phase = elim phase as (λ p. test p ≡ true → p ≡ processing) [
  | idle ↦ λ e. absurd (false≢true (sym i ∙ e))
  | ready ↦ λ e. absurd (false≢true (sym r ∙ e))
  | processing ↦ λ e. refl
  | activating ↦ λ e. absurd (false≢true (sym a ∙ e))
  | verifying ↦ λ e. absurd (false≢true (sym v ∙ e))
  | activated ↦ λ e. absurd (false≢true (sym d ∙ e))
  | rolling_back origin ↦ λ e. absurd (false≢true (sym (b origin) ∙ e))
  | rolled_back ↦ λ e. absurd (false≢true (sym l ∙ e))
  | cleaning_up origin ↦ λ e. absurd (false≢true (sym (c origin) ∙ e))
]

-- "Work and Cancel are allowed in Processing"
may-work : (phase : Phase) (n : ℕ) → allowed phase (work n) ≡ true → phase ≡ processing
unfolding allowed
may-work phase n = processing-alone (λ p. allowed p (work n)) refl refl refl refl refl (λ origin. refl) refl (λ origin. refl) phase

may-cancel : (phase : Phase) (id : ℕ) → allowed phase (cancel id) ≡ true → phase ≡ processing
unfolding allowed
may-cancel phase id = processing-alone (λ p. allowed p (cancel id)) refl refl refl refl refl (λ origin. refl) refl (λ origin. refl) phase

-- ---- all of them

accepted-by : (t : Transfers) (session : Session) (k : Option Work) (phase : Phase) (store : Store) (call : Call)
    → kept_sound phase session t.packages k ≡ true → allowed phase call ≡ true
    → first_refusal (own_refusals (state phase t session k) store call) ≡ none
    → Accepted (state phase t session k) store call (act (state phase t session k) store call)
accepted-by t session k phase store (transfer_start size) h a own = start_is (state phase t session k) store size own
accepted-by t session k phase store (transfer_data id counter block) h a own = block-is (state phase t session k) store id counter block own
accepted-by t session k phase store (transfer_exit id) h a own = exit-is (state phase t session k) store id own
accepted-by t session k phase store (delete_transfer id) h a own = delete-is (state phase t session k) store id own
accepted-by t session k phase store (process id) h a own = process-is (state phase t session k) store id (may-process phase id a) own
accepted-by t session k phase store (work n) h a own =
    let e : phase ≡ processing = may-work phase n a in
    subst (λ (x : Phase). Accepted (state x t session k) store (work n) (act (state x t session k) store (work n))) (sym e)
    (work-is t session store k n (subst (λ (x : Phase). kept_sound x session t.packages k ≡ true) e h))
accepted-by t session k phase store (cancel id) h a own =
    let e : phase ≡ processing = may-cancel phase id a in
    subst (λ (x : Phase). Accepted (state x t session k) store (cancel id) (act (state x t session k) store (cancel id))) (sym e)
    (cancel-is t session store k id
    (subst (λ (x : Phase). kept_sound x session t.packages k ≡ true) e h)
    (subst (λ (x : Phase). first_refusal (own_refusals (state x t session k) store (cancel id)) ≡ none) e own))
accepted-by t session k phase store revert h a own = revert-is t session store phase k a
accepted-by t session k phase store activate h a own = activate-is t session store phase k a
accepted-by t session k phase store rollback h a own = rollback-is t session store phase k a
accepted-by t session k phase store finish h a own = finish-is t session store phase k a
accepted-by t session k phase store (report good) h a own = report-is t session store phase k good a

-- a call of which no refusal applies is accepted in one of these ways
pub accepted-is : (s : State) (store : Store) (call : Call) → first_refusal (refusals s store call) ≡ none
    → Accepted s store call (act s store call)
accepted-is s store call e =
    accepted-by s.transfers s.session s.work s.phase store call (sound-says s store (accepted-sound s store call e)).kept_values
    (accepted-allowed s store call e) (accepted-own s store call e)

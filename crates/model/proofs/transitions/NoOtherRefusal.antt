-- On a sound state each of the accepted transitions is what the call does: a refusal "happens under no other condition", for one more
-- would stop a call that is accepted here. Each constructor's facts answer the call's refusals one by one. Assumes nothing.
use mathlib.Core.Path.{◌≡◌, refl, ap, subst, ◌∙◌}
use mathlib.Core.Bool.{true, false, not, ◌&&◌}
use mathlib.Core.List.{List, [], ◌∷◌}
use mathlib.Core.Logic.{◌↔◌}
use mathlib.Core.Option.{Option, none, some}
use Prim.Native.Nat.{ℕ, ◌+◌, ◌≤◌, ◌<◌}
use native.Mathlib.Omega.{arith}
use lib.Dec.{eqb}
use lib.ListN.{length}
use borrow.Author.Tests.{lt-ltb, le-ltb, lt-leb, eq-eqb}
use Rattle.base.specs.Refusals.{Refusal, first_refusal}
use Rattle.base.proofs.Refusals.{accepted-none}
use Rattle.checksum.specs.Sum.{sum_number}
use Rattle.clusters.specs.Table.{Table, needs_met}
use Rattle.actions.specs.Refusals.{action_refusals, passes}
use Rattle.manifest.specs.Package.{Manifest, PackageRead, consistent}
use Rattle.manifest.specs.Refused.{is_ill_formed, is_inconsistent}
use Rattle.model.specs.State.{transferred, being_processed, Package, CleanUpOrigin, Phase, processing, cleaning_up, is_processing, Transfers, Session, Work, State, state, Store, actions}
use Rattle.model.specs.State as states
use Rattle.model.specs.Calls.{Call, call_number, transfer_start, transfer_data, transfer_exit, delete_transfer, process, work, cancel, report, Answer, working, processed, refused}
use Rattle.model.specs.Calls as calls
use Rattle.model.specs.Permissions.{allowed}
use Rattle.model.specs.Areas.{free, find, area_of, is_transferring, is_transferred, is_being_processed, is_processed, processing_id, in_state, changed}
use Rattle.model.specs.Tables.{staged}
use Rattle.model.specs.Sound.{packages_most, id_most, sound}
use Rattle.model.specs.Step.{Outcome, outcome, area_read, manifest_of, own_refusals, refusals, further_refusals, with_packages, work_at_start, taken, work_on, ends_processing, listed_with, sum_compared, worked, cleaned_up, report_outcome, act, unless_refused, step}
use Rattle.model.proofs.soundness.Packages.{found-known, found-is}
use Rattle.model.proofs.soundness.Accepted.{passed_over, sound-decided}
use Rattle.model.proofs.soundness.SoundSession.{each-phase, allowed_at}
use Rattle.model.specs.Accepted.{Applicable, AtRest, in_idle, in_ready, Moves, reverts, activates, rolls_back_verifying, rolls_back_activated, finishes_activated, finishes_rolled_back, activation_fails, needs_missing, activation_succeeds, verification_succeeds, verification_fails, rollback_succeeds, rollback_fails, revert_fails, cleaning_activated_fails, cleaning_rolled_back_fails, Ends, after_revert, after_finish, after_rollback, Leaves, by_cancel, by_sum, Accepted, starts, puts_block, exits, deletes, processes, works_on, leaves, completes, cancels, moves, ends}
use Rattle.model.proofs.transitions.Passing.{applicable-passes}
use Rattle.model.proofs.transitions.Accepting.{accepted-is}
use Rattle.model.proofs.transitions.Refused.{step-cases, refused-by-the-first}

-- ---- a call that no refusal stops

-- behind a refusal that does not apply
goes_on : {x : Option ℕ} (r : Refusal) (rs : List Refusal) → r.applies ≡ false → first_refusal rs ≡ x → first_refusal (r ∷ rs) ≡ x
goes_on r rs h e = passed_over r rs h ∙ e

nothing_left : first_refusal [] ≡ none
unfolding first_refusal
nothing_left = refl

module _ (s : State) (store : Store) (h : sound s store ≡ true) where
  -- past 1, 2 and 3
  decided : {x : Option ℕ} (call : Call) → eqb (call_number call) 4 && is_processing s.phase ≡ false → allowed s.phase call ≡ true
      → first_refusal (own_refusals s store call) ≡ x → first_refusal (refusals s store call) ≡ x
  unfolding further_refusals
  decided call busy may own = sound-decided s store call h ∙ goes_on _ _ busy (goes_on _ _ (ap not may) own)

  does : (call : Call) → eqb (call_number call) 4 && is_processing s.phase ≡ false → allowed s.phase call ≡ true
      → first_refusal (own_refusals s store call) ≡ none → step s store call ≡ act s store call
  unfolding step
  does call busy may own = ap (λ (r : Option ℕ). unless_refused s store r (act s store call)) (decided call busy may own)

-- ---- the calls of the packages

-- "Process(id): Idle or Ready to Processing."
at_rest : (phase : Phase) → AtRest phase → (id : ℕ) → (is_processing phase ≡ false) × (allowed phase (process id) ≡ true)
unfolding allowed
at_rest phase in_idle id = (refl, refl)
at_rest phase in_ready id = (refl, refl)

-- the transfer calls are allowed "always": in each row of the table
module _ (s : State) (store : Store) (h : sound s store ≡ true) where
  abbrev ps : List Package
  ps = s.transfers.packages

  does-start : (size : ℕ) → 1 ≤ size → length ps < packages_most → size ≤ free ps store → s.transfers.next ≤ id_most
      → step s store (transfer_start size) ≡ act s store (transfer_start size)
  unfolding own_refusals allowed
  does-start size h7 h16 h17 h18 =
      does s store h (transfer_start size) refl (each-phase (allowed_at 0) refl s.phase)
      (goes_on _ _ (le-ltb _ _ h7)
      (goes_on _ _ (lt-leb _ _ h16) (goes_on _ _ (le-ltb _ _ h17) (goes_on _ _ (le-ltb _ _ h18) nothing_left))))

  module _ (id : ℕ) (p : Package) (e : find id ps ≡ some p) where
    does-block : (counter : ℕ) (block : List ℕ) → is_transferring p.state ≡ true → counter ≡ p.blocks + 1 → 1 ≤ length block
        → p.received + length block ≤ p.size
        → step s store (transfer_data id counter block) ≡ act s store (transfer_data id counter block)
    unfolding own_refusals allowed
    does-block counter block h5 h6 h7 fits =
        does s store h (transfer_data id counter block) refl (each-phase (allowed_at 1) refl s.phase)
        (goes_on _ _ (found-known id ps p e)
        (goes_on _ _ (rw (found-is id ps p e, h5))
        (goes_on _ _ (rw (found-is id ps p e, eq-eqb _ _ h6))
        (goes_on _ _ (rw (found-is id ps p e, le-ltb _ _ h7, le-ltb _ _ fits)) nothing_left))))

    does-exit : (m : Manifest) → is_transferring p.state ≡ true → p.size ≤ p.received → area_read s store id ≡ consistent m
        → step s store (transfer_exit id) ≡ act s store (transfer_exit id)
    unfolding own_refusals allowed
    does-exit m h5 h8 h9 =
        does s store h (transfer_exit id) refl (each-phase (allowed_at 2) refl s.phase)
        (goes_on _ _ (found-known id ps p e)
        (goes_on _ _ (rw (found-is id ps p e, h5))
        (goes_on _ _ (rw (found-is id ps p e, le-ltb _ _ h8))
        (goes_on _ _ (ap is_ill_formed h9) (goes_on _ _ (ap is_inconsistent h9) nothing_left)))))

    does-delete : is_being_processed p.state ≡ false → is_processed p.state ≡ false
        → step s store (delete_transfer id) ≡ act s store (delete_transfer id)
    unfolding own_refusals allowed
    does-delete being done =
        does s store h (delete_transfer id) refl (each-phase (allowed_at 3) refl s.phase)
        (goes_on _ _ (found-known id ps p e) (goes_on _ _ (rw (found-is id ps p e, being, done)) nothing_left))

  -- Process past 1 to 10 is decided by the refusals of the package's action
  module _ (id : ℕ) (p : Package) (m : Manifest) (rest : AtRest s.phase) (e : find id ps ≡ some p) (h5 : is_transferred p.state ≡ true)
      (h9 : area_read s store id ≡ consistent m) where
    process-decided : {x : Option ℕ} → first_refusal (action_refusals (staged s.session) (actions s.session.listed) m.action) ≡ x
        → first_refusal (refusals s store (process id)) ≡ x
    unfolding own_refusals
    process-decided decides =
        let allows = at_rest s.phase rest id in
        decided s store h (process id) allows.0 allows.1
        (goes_on _ _ (found-known id ps p e)
        (goes_on _ _ (rw (found-is id ps p e, h5))
        (goes_on _ _ (ap is_ill_formed h9)
        (goes_on _ _ (ap is_inconsistent h9)
        (ap
        (λ (read : PackageRead). first_refusal (action_refusals (staged s.session) (actions s.session.listed) (manifest_of read).action))
        h9
        ∙ decides)))))

    does-process : Applicable (staged s.session) (actions s.session.listed) m.action → step s store (process id) ≡ act s store (process id)
    unfolding step passes
    does-process h11 =
        ap (λ (r : Option ℕ). unless_refused s store r (act s store (process id))) (process-decided (accepted-none _ (applicable-passes _ _ h11)))

    pub process-refused : (number : ℕ) → first_refusal (action_refusals (staged s.session) (actions s.session.listed) m.action) ≡ some number
        → (step s store (process id)).reply ≡ refused number
    process-refused number decides = (refused-by-the-first s store (process id) number).1 (process-decided decides)

-- ---- the calls of the session

module _ (t : Transfers) (session : Session) (store : Store) (w : Work) (n : ℕ) (h : sound (state processing t session (some w)) store ≡ true) where
  abbrev before : State
  before = state processing t session (some w)

  abbrev after : Work
  after = work_on w n (area_of (processing_id t.packages) t.packages store)

  does-work : step before store (work n) ≡ worked before store w n
  unfolding own_refusals allowed act
  does-work = does before store h (work n) refl refl nothing_left

  goes-on-working : w.cancel_noted ≡ false → w.done + taken w n < w.count
      → step before store (work n) ≡ outcome working (state processing t session (some after)) store
  unfolding worked
  goes-on-working c l = does-work ∙ rw (c, lt-ltb _ _ l)

  compares : w.cancel_noted ≡ false → w.count ≤ w.done + taken w n → step before store (work n) ≡ sum_compared before store after
  unfolding worked
  compares c l = does-work ∙ rw (c, le-ltb _ _ l)

  leaves-package : (answer : Answer) → Leaves before store w n answer
      → step before store (work n) ≡ ends_processing before store answer transferred session.listed
  unfolding worked sum_compared
  leaves-package answer (by_cancel c) = does-work ∙ rw c
  leaves-package answer (by_sum c l e) = compares c l ∙ rw e

  processes-package : w.cancel_noted ≡ false → w.count ≤ w.done + taken w n
      → eqb (sum_number after.running_sums) w.sum ≡ true
      → step before store (work n) ≡ ends_processing before store processed states.processed (listed_with before store w)
  unfolding sum_compared
  processes-package c l e = compares c l ∙ rw e

does_move : {phase phase' : Phase} {call : Call} {answer : Answer} (t : Transfers) (session : Session) (k : Option Work) (store : Store)
    → Moves (needs_met (staged session)) call answer phase phase' → sound (state phase t session k) store ≡ true
    → step (state phase t session k) store call ≡ outcome answer (state phase' t session k) store
unfolding own_refusals allowed act report_outcome
does_move t session k store reverts h = does _ store h _ refl refl nothing_left
does_move t session k store activates h = does _ store h _ refl refl nothing_left
does_move t session k store rolls_back_verifying h = does _ store h _ refl refl nothing_left
does_move t session k store rolls_back_activated h = does _ store h _ refl refl nothing_left
does_move t session k store finishes_activated h = does _ store h _ refl refl nothing_left
does_move t session k store finishes_rolled_back h = does _ store h _ refl refl nothing_left
does_move t session k store (activation_fails m) h = does _ store h _ refl refl nothing_left ∙ rw m
does_move t session k store (needs_missing true m) h = does _ store h _ refl refl nothing_left ∙ rw m
does_move t session k store (needs_missing false m) h = does _ store h _ refl refl nothing_left ∙ rw m
does_move t session k store (activation_succeeds m) h = does _ store h _ refl refl nothing_left ∙ rw m
does_move t session k store verification_succeeds h = does _ store h _ refl refl nothing_left
does_move t session k store verification_fails h = does _ store h _ refl refl nothing_left
does_move t session k store (rollback_succeeds origin) h = does _ store h _ refl refl nothing_left
does_move t session k store (rollback_fails origin) h = does _ store h _ refl refl nothing_left
does_move t session k store revert_fails h = does _ store h _ refl refl nothing_left
does_move t session k store cleaning_activated_fails h = does _ store h _ refl refl nothing_left
does_move t session k store cleaning_rolled_back_fails h = does _ store h _ refl refl nothing_left

does-end : {origin : CleanUpOrigin} (t : Transfers) (session : Session) {table : Table} (k : Option Work) (store : Store)
    → Ends session origin table → sound (state (cleaning_up origin) t session k) store ≡ true
    → step (state (cleaning_up origin) t session k) store (report true) ≡ cleaned_up (state (cleaning_up origin) t session k) store table
unfolding own_refusals allowed act report_outcome
does-end t session k store after_revert h = does _ store h _ refl refl nothing_left
does-end t session k store after_finish h = does _ store h _ refl refl nothing_left
does-end t session k store after_rollback h = does _ store h _ refl refl nothing_left

-- ---- all of them

pub accepted-does : {s : State} {store : Store} {call : Call} {o : Outcome} → sound s store ≡ true → Accepted s store call o
    → step s store call ≡ o
unfolding own_refusals allowed act
accepted-does {s} {store} h (starts size h7 h16 h17 h18) = does-start s store h size h7 h16 h17 h18
accepted-does {s} {store} h (puts_block id counter block p e h5 h6 h7 fits) = does-block s store h id p e counter block h5 h6 h7 fits
accepted-does {s} {store} h (exits id p m e h5 h8 h9) = does-exit s store h id p e m h5 h8 h9
accepted-does {s} {store} h (deletes id p e being done) = does-delete s store h id p e being done
accepted-does {s} {store} h (processes id p m rest e h5 h9 h11) =
    does-process s store h id p m rest e h5 h9 h11
    ∙ ap
    (λ (read : PackageRead). outcome calls.done
    (state
    processing
    (with_packages (changed id (in_state being_processed) s.transfers.packages) s.transfers)
    s.session
    (some (work_at_start (manifest_of read))))
    store)
    h9
accepted-does h (works_on {t} {session} {store} w n c l) = goes-on-working t session store w n h c l
accepted-does h (leaves {t} {session} {store} w n {answer} f) = leaves-package t session store w n h answer f
accepted-does h (completes {t} {session} {store} w n c l e) = processes-package t session store w n h c l e
accepted-does h (cancels {t} {session} {store} w id e) =
    does _ store h (cancel id) refl refl (goes_on _ _ (ap not (eq-eqb _ _ e)) nothing_left)
accepted-does h (moves {t = t} {session = session} {k = k} {store = store} m) = does_move t session k store m h
accepted-does h (ends {t = t} {session = session} {k = k} {store = store} m) = does-end t session k store m h

-- on a sound state a call is accepted exactly in these ways
pub accepted-exactly : (s : State) (store : Store) (call : Call) (answer : Answer) (s' : State) (store' : Store) → sound s store ≡ true
    → (step s store call ≡ outcome answer s' store') ↔ Accepted s store call (outcome answer s' store')
accepted-exactly s store call answer s' store' h = (
  step-cases (λ o. o ≡ outcome answer s' store' → Accepted s store call (outcome answer s' store')) s store call
      (λ number r e. let z : ◌≡◌ {A = ℕ} 0 1 = cc (ap (λ (o : Outcome). o.reply) e) in absurd (omega arith))
      λ r e. subst (Accepted s store call) e (accepted-is s store call r),
  accepted-does h,
)

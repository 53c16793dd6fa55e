-- "Each is accepted exactly when the twelve's call of its name is, Activate only with all needs met in the staged table, and then does what
-- that call does. .. A call answered by anything but 0 changes nothing.": on any state and store. By cases of the manager's state. And what
-- A.6 answers behind an Activate answered 0. Assumes nothing.
use Prim.Native.Nat.{ℕ}
use mathlib.Core.Path.{◌≡◌, refl, sym, ap, ◌∙◌}
use mathlib.Core.Bool.{Bool, true, false, true≢false}
use mathlib.Core.Logic.{◌↔◌, inr}
use mathlib.Core.Option.{Option, none, some, some-injective}
use lib.Dec.{eqb}
use lib.ListN.{get_or}
use Rattle.base.specs.Refusals.{first_refusal}
use Rattle.base.proofs.Tests.{clash}
use Rattle.clusters.specs.Table.{needs_met}
use Rattle.model.specs.State.{ready, activating, Session, Work, State, state, Store}
use Rattle.model.specs.Calls.{cancel, report, done, pre_activation_failed, accepted}
use Rattle.model.specs.Tables.{staged}
use Rattle.model.specs.Sound.{sound}
use Rattle.model.specs.Layers.{EventOutcome}
use Rattle.model.specs.Step.{refusals, act, unless_refused, step}
use Rattle.model.proofs.transitions.ReportInActivating.{report-in-activating}
use Rattle.four_state.specs.declared.call.OldCall.{OldCall}
use Rattle.four_state.specs.declared.call.OldCall.TheVariants.{Activate, Cancel, Revert, Rollback}
use Rattle.four_state.proofs.Decided.{begun, answered, some-none, DecidedAs, row_of, by-table-status, by-table-activate, by-table-cancel, by-table-revert, by-table-rollback, decided}
use Rattle.four_state.specs.OldCalls.{twelve_of, status_of, old_answers, NeedsMetFor, begun_unless, old_step}

module _ (s : State) (store : Store) where
  -- ---- what the twelve's call replies

  -- each of the four is answered Done and leaves the store
  acts-done : (call : OldCall) → ((act s store (twelve_of call)).reply ≡ accepted done) × ((act s store (twelve_of call)).store ≡ store)
  unfolding act
  acts-done Activate = (refl, refl)
  acts-done (Cancel id) = go s.work
    where
      go : (kept : Option Work)
          → (let o = act (record { phase = s.phase; transfers = s.transfers; session = s.session; work = kept }) store (cancel id) in (o.reply ≡ accepted done) × (o.store ≡ store))
      go none = (refl, refl)
      go (some w) = (refl, refl)
  acts-done Revert = (refl, refl)
  acts-done Rollback = (refl, refl)

  replies : (refusal : Option ℕ) (call : OldCall) → ((unless_refused s store refusal (act s store (twelve_of call))).reply ≡ accepted done) ↔ (refusal ≡ none)
  replies none call = (λ e. refl, λ e. (acts-done call).0)
  replies (some number) call = (λ e. let z : ◌≡◌ {A = Bool} true false = cc in absurd (true≢false z), some-none)

  accepted-exactly : (call : OldCall) → ((step s store (twelve_of call)).reply ≡ accepted done) ↔ (first_refusal (refusals s store (twelve_of call)) ≡ none)
  unfolding step
  accepted-exactly call = replies (first_refusal (refusals s store (twelve_of call))) call

  -- no answer of the list is 0, and where none applies the twelve's call is accepted
  pub answers-not-0 : (call : OldCall) (n : ℕ) → first_refusal (old_answers s store call) ≡ some n → eqb n 0 ≡ false
  answers-not-0 call n is =
      elim (decided s store call).is_decided [
        | begun z e f met ↦ some-none (sym is ∙ e)
        | answered nonzero e unmet ↦ ap (λ (m : ℕ). eqb m 0) (some-injective _ _ (sym is ∙ e)) ∙ nonzero
      ]

  pub begun-is-accepted : (call : OldCall) → first_refusal (old_answers s store call) ≡ none → (step s store (twelve_of call)).reply ≡ accepted done
  begun-is-accepted call is =
      elim (decided s store call).is_decided [
        | begun z e f met ↦ (accepted-exactly call).1 f
        | answered nonzero e unmet ↦ some-none (sym e ∙ is)
      ]

  -- ---- the claims

  -- what an old call gives by its first answer
  abbrev by_answer : OldCall → Option ℕ → EventOutcome State ℕ
  by_answer call answer = begun_unless s store answer (step s store (twelve_of call)).state (step s store (twelve_of call)).store

  not-zero : (call : OldCall) (answer : Option ℕ) (n : ℕ) → answer ≡ some n → eqb n 0 ≡ false → (by_answer call answer).answer ≡ 0 → ⊥
  not-zero call answer n e nonzero z =
      clash (ap (λ (k : ℕ). eqb k 0) (sym (ap (λ (x : Option ℕ). (by_answer call x).answer) e) ∙ z)) nonzero

  pub answered-0-exactly-when : (call : OldCall)
      → ((old_step s store call).answer ≡ 0) ↔ (((step s store (twelve_of call)).reply ≡ accepted done) × NeedsMetFor s call)
  unfolding old_step
  answered-0-exactly-when call =
      elim (decided s store call).is_decided [
        | begun is0 e f met ↦ (λ z. ((accepted-exactly call).1 f, met), λ both. ap (λ (x : Option ℕ). (by_answer call x).answer) e)
        | answered nonzero e unmet ↦ (
          λ z. absurd (not-zero call _ _ e nonzero z),
          λ both. absurd (unmet ((accepted-exactly call).0 both.0) both.1),
        )
      ]

  -- "and then does what that call does"
  pub answered-0-does-what-that-call-does : (call : OldCall) → (old_step s store call).answer ≡ 0
      → ((old_step s store call).state ≡ (step s store (twelve_of call)).state) × ((old_step s store call).store ≡ (step s store (twelve_of call)).store)
  unfolding old_step
  answered-0-does-what-that-call-does call z =
      elim (decided s store call).is_decided [
        | begun is0 e f met ↦ (ap (λ (x : Option ℕ). (by_answer call x).state) e, ap (λ (x : Option ℕ). (by_answer call x).store) e)
        | answered nonzero e unmet ↦ absurd (not-zero call _ _ e nonzero z)
      ]

  -- "Only Load, an accepted block and deleting write the store.": so no old call does
  pub no-old-call-writes : (call : OldCall) → (old_step s store call).store ≡ store
  unfolding old_step step
  no-old-call-writes call = go (first_refusal (old_answers s store call)) (first_refusal (refusals s store (twelve_of call)))
    where
      go : (answer refusal : Option ℕ)
          → (let o = unless_refused s store refusal (act s store (twelve_of call)) in (begun_unless s store answer o.state o.store).store) ≡ store
      go (some n) refusal = refl
      go none (some n) = refl
      go none none = (acts-done call).1

  -- "A call answered by anything but 0 changes nothing."
  pub anything-but-0-changes-nothing : (call : OldCall) → ((old_step s store call).answer ≡ 0 → ⊥)
      → ((old_step s store call).state ≡ s) × ((old_step s store call).store ≡ store)
  unfolding old_step
  anything-but-0-changes-nothing call nonzero = go (first_refusal (old_answers s store call)) nonzero
    where
      go : (answer : Option ℕ) → ((by_answer call answer).answer ≡ 0 → ⊥) → ((by_answer call answer).state ≡ s) × ((by_answer call answer).store ≡ store)
      go none other = absurd (other refl)
      go (some n) other = (refl, refl)

  -- A.6 after an old Activate answered 0: the needs of its session are met, so while the session is that one a bad report in Activating is
  -- answered PreActivationFailed
  pub bad-report-behind-activate : (old_step s store Activate).answer ≡ 0 → (later : State) (store' : Store) → sound later store' ≡ true
      → later.phase ≡ activating → later.session ≡ s.session
      → (let o = step later store' (report false) in
      (o.reply ≡ accepted pre_activation_failed) × (o.state ≡ state ready later.transfers later.session later.work) × (o.store ≡ store'))
  bad-report-behind-activate z later store' h e same =
      let given = report-in-activating later store' h e false in
      let reply = given.failed.1 (refl, ap (λ (x : Session). needs_met (staged x)) same ∙ ((answered-0-exactly-when Activate).0 z).1) in
      (reply, given.failure_gives_ready (inr reply), given.store_stays)

  -- ---- the table

  by_number : (call : OldCall) (number : ℕ) → DecidedAs s store call number → (old_step s store call).answer ≡ number
  unfolding old_step
  by_number call number d =
      elim d [
        | begun is0 e f met ↦ ap (λ (x : Option ℕ). (by_answer call x).answer) e ∙ sym is0
        | answered nonzero e unmet ↦ ap (λ (x : Option ℕ). (by_answer call x).answer) e
      ]

  -- "Status: .." to "2 from the other three and status 255.": every answer is the table's, of every state and store and every id
  pub record ByTable (id : ℕ) : Type 0 where
    pub of_status : status_of s store ≡ get_or (row_of s store id) 0 0
    pub of_activate : (old_step s store Activate).answer ≡ get_or (row_of s store id) 1 0
    pub of_cancel : (old_step s store (Cancel id)).answer ≡ get_or (row_of s store id) 2 0
    pub of_revert : (old_step s store Revert).answer ≡ get_or (row_of s store id) 3 0
    pub of_rollback : (old_step s store Rollback).answer ≡ get_or (row_of s store id) 4 0

  pub whole-table : (id : ℕ) → ByTable id
  whole-table id =
      record {
        of_status = by-table-status s store id;
        of_activate = by_number Activate _ (by-table-activate s store id);
        of_cancel = by_number (Cancel id) _ (by-table-cancel s store id);
        of_revert = by_number Revert _ (by-table-revert s store id);
        of_rollback = by_number Rollback _ (by-table-rollback s store id);
      }

  -- one answered 0 has passed every other answer
  pub zero-is-begun : (call : OldCall) → (old_step s store call).answer ≡ 0 → first_refusal (old_answers s store call) ≡ none
  unfolding old_step
  zero-is-begun call z =
      elim (decided s store call).is_decided [
        | begun is0 e f met ↦ e
        | answered nonzero e unmet ↦ absurd (not-zero call _ _ e nonzero z)
      ]

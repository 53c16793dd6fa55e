-- A.6: what a Report in Activating is answered on every sound state, and what it changes there. It is accepted in three ways, which are
-- transitions of `Moves`: each gives one of the three answers, under a condition that rules the other two out. Assumes nothing.
use mathlib.Core.Path.{◌≡◌, refl, sym, subst}
use mathlib.Core.Bool.{Bool, true, false, true≢false}
use mathlib.Core.Logic.{◌↔◌, ◌⊎◌, inl, inr}
use mathlib.Core.Option.{Option}
use Rattle.base.proofs.Tests.{bool_cases, clash}
use Rattle.clusters.specs.Table.{needs_met}
use Rattle.clusters.proofs.Meaning.{UnmetNeed, unmet-exactly-when}
use Rattle.model.specs.State.{Phase, ready, activating, verifying, Transfers, Session, Work, State, state, Store}
use Rattle.model.specs.Calls.{report, done, pre_activation_failed, missing_dependencies, accepted}
use Rattle.model.specs.Tables.{staged}
use Rattle.model.specs.Sound.{sound}
use Rattle.model.specs.Step.{Outcome, outcome, step}
use Rattle.model.specs.Accepted.{activation_fails, needs_missing, activation_succeeds, Accepted, moves}
use Rattle.model.proofs.transitions.NoOtherRefusal.{accepted-does}

-- what a Report, good or bad, gives in Activating
pub record ReportedInActivating (s : State) (store : Store) (good : Bool) (o : Outcome) : Type 0 where
  -- it is answered MissingDependencies exactly when some need of the staged table is unmet
  pub missing : (o.reply ≡ accepted missing_dependencies) ↔ UnmetNeed (staged s.session)
  -- PreActivationFailed exactly when it is bad and all are met
  pub failed : (o.reply ≡ accepted pre_activation_failed) ↔ ((good ≡ false) × (needs_met (staged s.session) ≡ true))
  -- Done exactly when it is good and all are met
  pub succeeded : (o.reply ≡ accepted done) ↔ ((good ≡ true) × (needs_met (staged s.session) ≡ true))
  -- both failures give Ready and change nothing else of the state
  pub failure_gives_ready : (o.reply ≡ accepted missing_dependencies) ⊎ (o.reply ≡ accepted pre_activation_failed)
      → o.state ≡ state ready s.transfers s.session s.work
  -- the store stays
  pub store_stays : o.store ≡ store

module _ (t : Transfers) (session : Session) (k : Option Work) (store : Store) where
  abbrev before : State
  before = state activating t session k

  needs-missing : (good : Bool) → needs_met (staged session) ≡ false
      → ReportedInActivating before store good (outcome missing_dependencies (state ready t session k) store)
  needs-missing good m =
      record {
        missing = (λ e. (unmet-exactly-when (staged session)).0 m, λ u. refl);
        failed = (λ e. absurd (true≢false cc), λ both. clash both.1 m);
        succeeded = (λ e. absurd (true≢false cc), λ both. clash both.1 m);
        failure_gives_ready = λ e. refl;
        store_stays = refl;
      }

  activation-fails : needs_met (staged session) ≡ true
      → ReportedInActivating before store false (outcome pre_activation_failed (state ready t session k) store)
  activation-fails m =
      record {
        missing = (λ e. absurd (true≢false cc), λ u. clash m ((unmet-exactly-when (staged session)).1 u));
        failed = (λ e. (refl, m), λ both. refl);
        succeeded = (λ e. absurd (true≢false cc), λ both. clash both.0 refl);
        failure_gives_ready = λ e. refl;
        store_stays = refl;
      }

  activation-succeeds : needs_met (staged session) ≡ true
      → ReportedInActivating before store true (outcome done (state verifying t session k) store)
  activation-succeeds m =
      record {
        missing = (λ e. absurd (true≢false cc), λ u. clash m ((unmet-exactly-when (staged session)).1 u));
        failed = (λ e. absurd (true≢false cc), λ both. clash refl both.0);
        succeeded = (λ e. (refl, m), λ both. refl);
        failure_gives_ready = λ e. elim e [ inl f ↦ absurd (true≢false cc) | inr f ↦ absurd (true≢false cc) ];
        store_stays = refl;
      }

  -- the call gives what the way in which it is accepted gives
  by_way : sound before store ≡ true → {good : Bool} {o : Outcome} → Accepted before store (report good) o
      → ReportedInActivating before store good o → ReportedInActivating before store good (step before store (report good))
  by_way h {good} way given = subst (ReportedInActivating before store good) (sym (accepted-does h way)) given

  reported : sound before store ≡ true → (good : Bool) → ReportedInActivating before store good (step before store (report good))
  reported h true =
      bool_cases (needs_met (staged session)) (λ m. by_way h (moves (activation_succeeds m)) (activation-succeeds m))
      λ m. by_way h (moves (needs_missing true m)) (needs-missing true m)
  reported h false =
      bool_cases (needs_met (staged session)) (λ m. by_way h (moves (activation_fails m)) (activation-fails m))
      λ m. by_way h (moves (needs_missing false m)) (needs-missing false m)

pub report-in-activating : (s : State) (store : Store) → sound s store ≡ true → s.phase ≡ activating → (good : Bool)
    → ReportedInActivating s store good (step s store (report good))
report-in-activating s store h e good =
    let at : Phase → State = λ phase. state phase s.transfers s.session s.work in
    subst (λ (phase : Phase). sound (at phase) store ≡ true → ReportedInActivating (at phase) store good (step (at phase) store (report good)))
    (sym e) (λ a. reported s.transfers s.session s.work store a good) h

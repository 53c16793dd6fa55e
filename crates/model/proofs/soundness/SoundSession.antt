-- Soundness when the manager's state moves, when a session ends, and after each Report. Assumes nothing.
use mathlib.Core.Path.{◌≡◌, refl, sym, ap, subst, ◌∙◌}
use mathlib.Core.Bool.{Bool, true, false, not, ◌&&◌, ◌||◌, false≢true}
use mathlib.Core.List.{List, [], ◌∷◌}
use Prim.Native.Nat.{ℕ}
use native.Mathlib.Omega.{arith}
use lib.Dec.{eqb}
use lib.ListN.{get_or}
use borrow.Author.Tests.{not-true}
use Rattle.base.proofs.Tests.{and_left, and_right, clash}
use Rattle.clusters.specs.Table.{Table, table_within, needs_met}
use Rattle.actions.specs.Refusals.{pass_in_turn}
use Rattle.actions.specs.Action.{actions_within}
use Rattle.actions.proofs.Limits.{apply-all-within}
use Rattle.model.specs.State.{Package, PackageState, RollbackOrigin, verifying_rolls_back, activated_rolls_back, ready_cleans_up, activated_cleans_up, rolled_back_cleans_up, Phase, idle, ready, processing, activating, verifying, activated, rolling_back, rolled_back, cleaning_up, phase_number, is_idle, is_processing, Entry, State, state, Store, actions}
use Rattle.model.specs.Calls.{Call, call_number}
use Rattle.model.specs.Permissions.{permissions, allowed}
use Rattle.model.specs.Areas.{remaining, is_being_processed, is_processed}
use Rattle.model.specs.Tables.{staged}
use Rattle.model.specs.Sound.{list_fits}
use Rattle.model.specs.Step.{activating_phase, rollback_phase, cleaned_up, report_outcome}
use Rattle.model.proofs.soundness.SoundFacts.{Sound}
use Rattle.model.proofs.soundness.Packages.{rise-kept, declared-kept, length-kept}
use Rattle.model.proofs.soundness.FinePackage.{processing-is}
use Rattle.model.proofs.soundness.Counts.{one, keeps-each, count_kept}
use Rattle.model.proofs.soundness.Listed.{tied-cleaned, none-cleaned}
use Rattle.model.proofs.store.StoreLength.{length-deleted}
use Rattle.model.proofs.soundness.KeptValues.{kept-outside}

-- ---- the manager's states that are neither Idle nor Processing

abbrev pub rests_at : ℕ → Bool
rests_at n = not (eqb n 0) && not (eqb n 2)

abbrev pub rests : Phase → Bool
rests phase = rests_at (phase_number phase)

-- a test of the nine numbers holds of every manager's state
pub each-phase : (test : ℕ → Bool)
    → test 0 && (test 1 && (test 2 && (test 3 && (test 4 && (test 5 && (test 6 && (test 7 && test 8))))))) ≡ true → (phase : Phase)
    → test (phase_number phase) ≡ true
each-phase test h phase =
    let h1 = and_right (test 0) _ h in
    let h2 = and_right (test 1) _ h1 in
    let h3 = and_right (test 2) _ h2 in
    let h4 = and_right (test 3) _ h3 in
    let h5 = and_right (test 4) _ h4 in
    let h6 = and_right (test 5) _ h5 in
    let h7 = and_right (test 6) _ h6 in
    elim phase as (λ (x : Phase). test (phase_number x) ≡ true) [
      | idle ↦ and_left _ _ h
      | ready ↦ and_left _ _ h1
      | processing ↦ and_left _ _ h2
      | activating ↦ and_left _ _ h3
      | verifying ↦ and_left _ _ h4
      | activated ↦ and_left _ _ h5
      | rolling_back origin ↦ and_left _ _ h6
      | rolled_back ↦ and_left (test 7) _ h7
      | cleaning_up origin ↦ and_right (test 7) _ h7
    ]

-- the table of permissions at a call's number
abbrev pub allowed_at : ℕ → ℕ → Bool
allowed_at call n = get_or (get_or permissions n []) call false

implied : (a b : Bool) → not a || b ≡ true → a ≡ true → b ≡ true
implied true b h e = h
implied false b h e = absurd (false≢true e)

-- a call that the table allows only where the manager rests: `refl` for each call of which that is so
pub rests-where : (call : Call)
    → (let n = call_number call in
    let test : ℕ → Bool = λ k. not (allowed_at n k) || rests_at k in
    test 0 && (test 1 && (test 2 && (test 3 && (test 4 && (test 5 && (test 6 && (test 7 && test 8))))))) ≡ true)
    → (phase : Phase) → allowed phase call ≡ true → rests phase ≡ true
unfolding allowed
rests-where call h phase = implied (allowed_at (call_number call) (phase_number phase)) (rests phase) (each-phase (λ k. not (allowed_at (call_number call) k) || rests_at k) h phase)

module _ (phase : Phase) (h : rests phase ≡ true) where
  rests-not-idle : is_idle phase ≡ false
  rests-not-idle = not-true _ (and_left _ _ h)

  rests-not-processing : is_processing phase ≡ false
  rests-not-processing = not-true _ (and_right (not (is_idle phase)) _ h)

-- what the list is there does not matter, as long as it is the same
fits_moved : (phase phase' : Phase) (entries : List Entry) → rests phase ≡ true → rests phase' ≡ true → list_fits phase entries ≡ true
    → list_fits phase' entries ≡ true
unfolding list_fits
fits_moved phase phase' [] r r' h = clash h (rw (rests-not-idle phase r, rests-not-processing phase r))
fits_moved phase phase' (e ∷ entries) r r' h = rw (rests-not-idle phase' r')

module _ (s : State) (store : Store) (ok : Sound s store) where
  -- the manager's state moves
  pub moved-sound : (phase : Phase) → rests s.phase ≡ true → rests phase ≡ true
      → Sound (state phase s.transfers s.session s.work) store
  moved-sound phase r r' =
      record {
        room = ok.room;
        fit = ok.fit;
        few = ok.few;
        begun = ok.begun;
        ids = ok.ids;
        rise = ok.rise;
        beginning = ok.beginning;
        within = ok.within;
        turn = ok.turn;
        entries = ok.entries;
        listed = ok.listed;
        kept_values = kept-outside s.phase s.session s.transfers.packages phase s.session s.transfers.packages s.work (rests-not-processing s.phase r) (rests-not-processing phase r') ok.kept_values;
        processing = ok.processing ∙ ap one (rests-not-processing s.phase r ∙ sym (rests-not-processing phase r'));
        fits = fits_moved s.phase phase s.session.listed r r' ok.fits;
      }

  -- the staged table is within the limits
  pub staged-within : table_within (staged s.session) ≡ true
  unfolding staged
  staged-within = apply-all-within s.session.beginning [] (actions s.session.listed) ok.beginning ok.within ok.turn

  -- a session ends, and the given table begins the next
  pub cleaned-sound : (table : Table) → table_within table ≡ true → rests s.phase ≡ true
      → Sound (cleaned_up s store table).state (cleaned_up s store table).store
  unfolding cleaned_up
  cleaned-sound table fine r =
      let ps = s.transfers.packages in
      let keeps : Package → Bool = λ p. not (is_processed p.state) in
      let long = length-deleted keeps ps store ok.fit in
      let being : (p : Package) → is_being_processed p.state ≡ true → keeps p ≡ true = λ p h. ap (λ (x : PackageState). not (is_processed x)) (processing-is p.state h) in
      let outside = rests-not-processing s.phase r in
      record {
        room = rw long ok.room;
        fit = rw long (omega (arith, declared-kept keeps ps, ok.fit));
        few = omega (arith, length-kept keeps ps, ok.few);
        begun = ok.begun;
        ids = ok.ids;
        rise = rise-kept keeps 0 s.transfers.next ps ok.rise;
        beginning = fine;
        within = unfold actions_within in refl;
        turn = unfold pass_in_turn in refl;
        entries = sym (none-cleaned ps);
        listed = tied-cleaned ps;
        kept_values = kept-outside s.phase s.session ps idle (record { beginning = table; listed = [] }) (remaining keeps ps) s.work outside refl ok.kept_values;
        processing = count_kept is_being_processed keeps ps (keeps-each is_being_processed keeps being ps) ∙ ok.processing ∙ ap one outside;
        fits = unfold list_fits in refl;
      }

-- ---- Report

rests-activating : (good met : Bool) → rests (activating_phase good met) ≡ true
rests-activating false met = refl
rests-activating true false = refl
rests-activating true true = refl

rests-rollback : (origin : RollbackOrigin) → rests (rollback_phase origin) ≡ true
rests-rollback verifying_rolls_back = refl
rests-rollback activated_rolls_back = refl

module _ (s : State) (store : Store) (ok : Sound s store) where
  to : (from : Phase) → s.phase ≡ from → rests from ≡ true → (phase : Phase) → rests phase ≡ true
      → Sound (state phase s.transfers s.session s.work) store
  to from e r phase r' = moved-sound s store ok phase (ap rests e ∙ r) r'

  clean : (from : Phase) → s.phase ≡ from → rests from ≡ true → (table : Table) → table_within table ≡ true
      → Sound (cleaned_up s store table).state (cleaned_up s store table).store
  clean from e r table fine = cleaned-sound s store ok table fine (ap rests e ∙ r)

  same : (phase : Phase) → s.phase ≡ phase → Sound (state phase s.transfers s.session s.work) store
  same phase e = subst (λ (x : Phase). Sound (state x s.transfers s.session s.work) store) e ok

  pub report-sound : (phase : Phase) → s.phase ≡ phase → (good : Bool)
      → Sound (report_outcome s store phase good).state (report_outcome s store phase good).store
  unfolding report_outcome
  report-sound activating e good = to activating e refl (activating_phase good (needs_met (staged s.session))) (rests-activating good (needs_met (staged s.session)))
  report-sound verifying e true = to verifying e refl activated refl
  report-sound verifying e false = to verifying e refl verifying refl
  report-sound (rolling_back origin) e true = to (rolling_back origin) e refl rolled_back refl
  report-sound (rolling_back origin) e false = to (rolling_back origin) e refl (rollback_phase origin) (rests-rollback origin)
  report-sound (cleaning_up ready_cleans_up) e true = clean (cleaning_up ready_cleans_up) e refl s.session.beginning ok.beginning
  report-sound (cleaning_up ready_cleans_up) e false = to (cleaning_up ready_cleans_up) e refl ready refl
  report-sound (cleaning_up activated_cleans_up) e true = clean (cleaning_up activated_cleans_up) e refl (staged s.session) (staged-within s store ok)
  report-sound (cleaning_up activated_cleans_up) e false = same (cleaning_up activated_cleans_up) e
  report-sound (cleaning_up rolled_back_cleans_up) e true = clean (cleaning_up rolled_back_cleans_up) e refl s.session.beginning ok.beginning
  report-sound (cleaning_up rolled_back_cleans_up) e false = same (cleaning_up rolled_back_cleans_up) e
  report-sound idle e good = same idle e
  report-sound ready e good = same ready e
  report-sound processing e good = same processing e
  report-sound activated e good = same activated e
  report-sound rolled_back e good = same rolled_back e

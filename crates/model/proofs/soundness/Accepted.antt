-- What decides a call: 1 on an unsound state, else its further refusals; and what an accepted call has passed: soundness, permission, and
-- its own refusals one by one. Assumes nothing.
use mathlib.Core.Path.{◌≡◌, refl, sym, ap}
use mathlib.Core.Bool.{Bool, true, false, not, cond, true≢false}
use mathlib.Core.List.{List, ◌∷◌}
use mathlib.Core.Option.{none, some}
use borrow.Author.Tests.{not-false}
use Rattle.base.specs.Refusals.{Refusal, first_refusal}
use Rattle.base.proofs.Tests.{none-some}
use Rattle.manifest.specs.Package.{PackageRead, ill_formed, inconsistent, consistent}
use Rattle.manifest.specs.Refused.{is_ill_formed, is_inconsistent}
use Rattle.model.specs.State.{State, Store}
use Rattle.model.specs.Calls.{Call}
use Rattle.model.specs.Permissions.{allowed}
use Rattle.model.specs.Sound.{sound, bad_state}
use Rattle.model.specs.Step.{manifest_of, own_refusals, further_refusals, refusals}

-- ---- a list of refusals of which none applies

module _ (r : Refusal) (rs : List Refusal) where
  pub first-passed : first_refusal (r ∷ rs) ≡ none → r.applies ≡ false
  unfolding first_refusal
  first-passed h = go r.applies h
    where
      go : (b : Bool) → cond b (some r.number) (first_refusal rs) ≡ none → b ≡ false
      go true h = none-some (sym h)
      go false h = refl

  pub rest-passed : first_refusal (r ∷ rs) ≡ none → first_refusal rs ≡ none
  unfolding first_refusal
  rest-passed h = go r.applies h
    where
      go : (b : Bool) → cond b (some r.number) (first_refusal rs) ≡ none → first_refusal rs ≡ none
      go true h = none-some (sym h)
      go false h = h

  pub passed_over : r.applies ≡ false → first_refusal (r ∷ rs) ≡ first_refusal rs
  unfolding first_refusal
  passed_over h = rw h

  pub refused-by : r.applies ≡ true → first_refusal (r ∷ rs) ≡ some r.number
  unfolding first_refusal
  refused-by h = rw h

-- ---- after refusal 1, with whatever refusals of a call

module _ (s : State) (store : Store) (rs : List Refusal) where
  pub on-sound : sound s store ≡ true → first_refusal (bad_state s store ∷ rs) ≡ first_refusal rs
  on-sound h = passed_over (bad_state s store) rs (ap not h)

  pub on-unsound : sound s store ≡ false → first_refusal (bad_state s store ∷ rs) ≡ some 1
  on-unsound h = refused-by (bad_state s store) rs (ap not h)

-- ---- a call

module _ (s : State) (store : Store) (call : Call) where
  -- a call on a sound state is decided by its further refusals
  pub sound-decided : sound s store ≡ true → first_refusal (refusals s store call) ≡ first_refusal (further_refusals s store call)
  unfolding refusals
  sound-decided = on-sound s store (further_refusals s store call)

  -- and one on an unsound state by 1
  pub unsound-refused : sound s store ≡ false → first_refusal (refusals s store call) ≡ some 1
  unfolding refusals
  unsound-refused = on-unsound s store (further_refusals s store call)

module _ (s : State) (store : Store) (call : Call) (accepted : first_refusal (refusals s store call) ≡ none) where
  pub accepted-sound : sound s store ≡ true
  unfolding refusals
  accepted-sound = not-false _ (first-passed _ _ accepted)

  pub accepted-allowed : allowed s.phase call ≡ true
  unfolding refusals further_refusals
  accepted-allowed = not-false _ (first-passed _ _ (rest-passed _ _ (rest-passed _ _ accepted)))

  pub accepted-own : first_refusal (own_refusals s store call) ≡ none
  unfolding refusals further_refusals
  accepted-own = rest-passed _ _ (rest-passed _ _ (rest-passed _ _ accepted))

-- ---- the text of an area

pub read_is : (read : PackageRead) → is_ill_formed read ≡ false → is_inconsistent read ≡ false → read ≡ consistent (manifest_of read)
read_is ill_formed h9 h10 = absurd (true≢false h9)
read_is inconsistent h9 h10 = absurd (true≢false h10)
read_is (consistent m) h9 h10 = refl

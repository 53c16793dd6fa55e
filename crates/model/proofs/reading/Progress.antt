-- Progress is the floor, at most 100, and 0 outside Processing. Assumes nothing.
use Prim.Native.Nat.{ℕ, ◌+◌, ◌*◌, ◌≤◌, ◌<◌}
use mathlib.Core.Path.{◌≡◌, refl, sym, ◌∙◌}
use mathlib.Core.Bool.{true, false, true≢false}
use mathlib.Core.List.{List}
use mathlib.Core.Option.{Option, none, some}
use native.Mathlib.Nat.{div-le_of_le-mul, div-mul-le_self, lt-div-mul-add}
use native.Mathlib.Omega.{arith}
use lib.Dec.{eqb}
use borrow.Author.Tests.{eqb-true}
use Rattle.base.proofs.Tests.{cond_cases, and_left, and_right}
use Rattle.model.specs.State.{Package, Phase, is_processing, Session, Work, State, Store}
use Rattle.model.specs.Sound.{kept_sound, sound}
use Rattle.model.specs.Reading.{progress_of}
use Rattle.model.proofs.soundness.SoundFacts.{sound-says, work-says}

-- the floor of 100 × done / count
pub progress-floor : (w : Work) → 1 ≤ w.count
    → (progress_of (some w) * w.count ≤ 100 * w.done) × (100 * w.done < progress_of (some w) * w.count + w.count)
unfolding progress_of
progress-floor w h =
    cond_cases (λ (n : ℕ). (n * w.count ≤ 100 * w.done) × (100 * w.done < n * w.count + w.count)) (eqb w.count 0) _ _
    (λ b. absurd (let z = eqb-true w.count 0 b in omega arith))
    λ b. (div-mul-le_self (100 * w.done) w.count, lt-div-mul-add (omega arith))

work-most : (w : Work) → w.done ≤ w.count → progress_of (some w) ≤ 100
unfolding progress_of
work-most w h =
    cond_cases (λ (n : ℕ). n ≤ 100) (eqb w.count 0) _ _ (λ b. omega arith)
    λ b. div-le_of_le-mul w.count (omega arith)

module _ (phase : Phase) (session : Session) (ps : List Package) where
  kept-most : (k : Option Work) → kept_sound phase session ps k ≡ true → progress_of k ≤ 100
  unfolding kept_sound progress_of
  kept-most none h = omega arith
  kept-most (some w) h = work-most w (work-says session ps w (and_right (is_processing phase) _ h)).done

  kept-outside : (k : Option Work) → kept_sound phase session ps k ≡ true → is_processing phase ≡ false → progress_of k ≡ 0
  unfolding kept_sound progress_of
  kept-outside none h outside = refl
  kept-outside (some w) h outside = absurd (true≢false (sym (and_left (is_processing phase) _ h) ∙ outside))

module _ (s : State) (store : Store) (h : sound s store ≡ true) where
  pub progress-most : progress_of s.work ≤ 100
  progress-most = kept-most s.phase s.session s.transfers.packages s.work (sound-says s store h).kept_values

  pub progress-outside : is_processing s.phase ≡ false → progress_of s.work ≡ 0
  progress-outside = kept-outside s.phase s.session s.transfers.packages s.work (sound-says s store h).kept_values

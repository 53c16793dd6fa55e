-- A package by itself: its state, and what soundness demands of it after a block and after a change of state. Assumes nothing.
use mathlib.Core.Path.{◌≡◌, refl}
use mathlib.Core.Bool.{true, false, false≢true}
use Prim.Native.Nat.{ℕ, ◌+◌, ◌≤◌}
use native.Mathlib.Omega.{arith}
use borrow.Author.Tests.{leb-true, eqb-true, le-leb, eq-eqb}
use Rattle.base.proofs.Tests.{bool_cases}
use Rattle.model.specs.State.{PackageState, transferring, transferred, being_processed, processed, Package}
use Rattle.model.specs.Areas.{in_state, with_block, is_transferring, is_transferred, is_being_processed}
use Rattle.model.specs.Sound.{received_sound}
use Rattle.model.proofs.soundness.Packages.{Fine}

-- ---- the state that a test tells

pub transferring-is : (state : PackageState) → is_transferring state ≡ true → state ≡ transferring
transferring-is transferring h = refl
transferring-is transferred h = absurd (false≢true h)
transferring-is being_processed h = absurd (false≢true h)
transferring-is processed h = absurd (false≢true h)

pub transferred-is : (state : PackageState) → is_transferred state ≡ true → state ≡ transferred
transferred-is transferring h = absurd (false≢true h)
transferred-is transferred h = refl
transferred-is being_processed h = absurd (false≢true h)
transferred-is processed h = absurd (false≢true h)

pub processing-is : (state : PackageState) → is_being_processed state ≡ true → state ≡ being_processed
processing-is transferring h = absurd (false≢true h)
processing-is transferred h = absurd (false≢true h)
processing-is being_processed h = refl
processing-is processed h = absurd (false≢true h)

-- ---- received bytes

module _ (p : Package) where
  -- past Transferring all bytes are there
  pub whole : is_transferring p.state ≡ false → received_sound p ≡ true → p.received ≡ p.size
  unfolding received_sound
  whole n h = eqb-true _ _ (rw n at h)

  pub part : is_transferring p.state ≡ true → received_sound p ≡ true → p.received ≤ p.size
  unfolding received_sound
  part n h = leb-true _ _ (rw n at h)

  -- with all bytes there a package is fine in any state
  pub fine-in-state : (state : PackageState) (next : ℕ) → p.received ≡ p.size → Fine next p → Fine next (in_state state p)
  unfolding received_sound
  fine-in-state state next e f =
      record {
        below = f.below;
        sized = f.sized;
        received = bool_cases (is_transferring state) (λ b. rw b (le-leb p.received p.size (omega arith))) (λ b. rw b (eq-eqb _ _ e));
        blocks = f.blocks;
      }

  -- with a block of at least one byte that fits
  pub fine-with-block : (n next : ℕ) → is_transferring p.state ≡ true → 1 ≤ n → p.received + n ≤ p.size → Fine next p
      → Fine next (with_block n p)
  unfolding received_sound
  fine-with-block n next t o l f =
      record { below = f.below; sized = f.sized; received = rw t (le-leb _ _ l); blocks = omega (arith, f.blocks) }

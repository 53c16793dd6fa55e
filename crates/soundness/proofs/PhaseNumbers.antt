-- What document 01's number of the manager's state decides. Assumes nothing.
use Prim.Native.Nat.{ℕ}
use mathlib.Core.Path.{◌≡◌, sym}
use mathlib.Core.Bool.{Bool, cond, ◌&&◌, and-true}
use mathlib.Core.List.{List, [], ◌∷◌}
use native.Mathlib.Omega.{arith}
use lib.Dec.{eqb, leb}
use lib.ListN.{length}
use borrow.Author.Tests.{eq-eqb, ne_eqb, le-leb}
use Rattle.model.specs.State.{Entry, Phase, phase_number, is_processing}
use Rattle.model.specs.Sound.{list_fits}

module _ (phase : Phase) (processing : ℕ) where
  -- the manager's state goes with the packages that are Processing and with the list
  abbrev pub phase_fits : List Entry → Bool
  phase_fits listed = eqb processing (cond (is_processing phase) 1 0) && list_fits phase listed

  pub in-processing : (listed : List Entry) → phase_number phase ≡ 2 → eqb processing 1 ≡ phase_fits listed
  unfolding list_fits
  in-processing [] e = rw (eq-eqb (phase_number phase) 2 e, ne_eqb (phase_number phase) 0 λ z. omega arith) (sym (and-true (eqb processing 1)))
  in-processing (x ∷ rest) e = rw (eq-eqb (phase_number phase) 2 e, ne_eqb (phase_number phase) 0 λ z. omega arith) (sym (and-true (eqb processing 1)))

  pub in-idle : (listed : List Entry) → phase_number phase ≡ 0 → eqb processing 0 && eqb (length listed) 0 ≡ phase_fits listed
  unfolding list_fits
  in-idle [] e = rw (ne_eqb (phase_number phase) 2 λ z. omega arith, eq-eqb (phase_number phase) 0 e)
  in-idle (x ∷ rest) e =
      rw (ne_eqb (phase_number phase) 2 λ z. omega arith, eq-eqb (phase_number phase) 0 e, ne_eqb (length (x ∷ rest)) 0 λ z. omega arith)

  pub elsewhere : (listed : List Entry) → (phase_number phase ≡ 2 → ⊥) → (phase_number phase ≡ 0 → ⊥)
      → eqb processing 0 && leb 1 (length listed) ≡ phase_fits listed
  unfolding list_fits
  elsewhere [] p i = rw (ne_eqb (phase_number phase) 2 p, ne_eqb (phase_number phase) 0 i)
  elsewhere (x ∷ rest) p i =
      rw (ne_eqb (phase_number phase) 2 p, ne_eqb (phase_number phase) 0 i, le-leb 1 (length (x ∷ rest)) (omega arith))

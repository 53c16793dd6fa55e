-- `same_bytes` says whether two lists are equal. Assumes nothing.
use Prim.Native.Nat.{ℕ}
use mathlib.Core.Path.{◌≡◌, refl, sym}
use mathlib.Core.Bool.{Bool, true, false, false≢true}
use mathlib.Core.List.{List, [], ◌∷◌}
use lib.Dec.{eqb}
use borrow.Author.Tests.{eq-eqb, eqb-true}
use Rattle.base.proofs.Tests.{and_left, and_right, and_both, bool_cases}
use Rattle.text.specs.Word.{same_bytes}

pub same-bytes-equal : (a b : List ℕ) → same_bytes a b ≡ true → a ≡ b
unfolding same_bytes
same-bytes-equal [] [] h = refl
same-bytes-equal [] (y ∷ ys) h = absurd (false≢true h)
same-bytes-equal (x ∷ xs) [] h = absurd (false≢true h)
same-bytes-equal (x ∷ xs) (y ∷ ys) h =
    let e : x ≡ y = eqb-true x y (and_left _ _ h) in
    let t : xs ≡ ys = same-bytes-equal xs ys (and_right (eqb x y) _ h) in
    cc

pub same-bytes-self : (a : List ℕ) → same_bytes a a ≡ true
unfolding same_bytes
same-bytes-self [] = refl
same-bytes-self (x ∷ xs) = and_both _ _ (eq-eqb x x refl) (same-bytes-self xs)

pub same-bytes-differ : (a b : List ℕ) → (a ≡ b → ⊥) → same_bytes a b ≡ false
same-bytes-differ a b n = bool_cases (same_bytes a b) (λ t. absurd (n (same-bytes-equal a b t))) (λ f. f)

-- an answer that is true exactly where the lists are equal
pub same-bytes-decides : (a b : List ℕ) (r : Bool) → (r ≡ true → a ≡ b) → (a ≡ b → r ≡ true) → r ≡ same_bytes a b
same-bytes-decides a b true f g = sym (rw (f refl) (same-bytes-self b))
same-bytes-decides a b false f g = sym (same-bytes-differ a b λ e. false≢true (g e))

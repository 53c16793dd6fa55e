-- Tests and numbers of the part numbers in a list: a test that holds of all, of one, and the largest number. Assumes nothing.
use Prim.Native.Nat.{ℕ, ◌<◌, ◌≤◌}
use mathlib.Core.Path.{◌≡◌, refl, sym, ◌∙◌}
use mathlib.Core.Bool.{Bool, true, false, not, ◌&&◌, ◌||◌}
use mathlib.Core.List.{List, [], ◌∷◌}
use native.Mathlib.Omega.{arith}
use lib.Dec.{ltb}
use borrow.Author.Tests.{lt-ltb, ltb-true}
use Rattle.base.proofs.Tests.{and_left, and_right, and_both, bool_cases, clash}
use Rattle.base.proofs.Ladder.{both-on}
use Rattle.start_waves.specs.StartOrder.{all}
use Rattle.start_waves.specs.WaveClaims.{largest, any}

module _ (test : ℕ → Bool) where
  -- what a test holds of, another one does too
  pub all-also : (other : ℕ → Bool) (parts : List ℕ) → ((p : ℕ) → test p ≡ true → other p ≡ true) → all test parts ≡ true → all other parts ≡ true
  unfolding all
  all-also other [] h a = refl
  all-also other (p ∷ parts) h a =
      and_both (other p) (all other parts) (h p (and_left (test p) (all test parts) a)) (all-also other parts h (and_right (test p) (all test parts) a))

  pub all_both : (other : ℕ → Bool) (parts : List ℕ) → all test parts ≡ true → all other parts ≡ true → all (λ p. test p && other p) parts ≡ true
  unfolding all
  all_both other [] a b = refl
  all_both other (p ∷ parts) a b =
      and_both (test p && other p) (all (λ q. test q && other q) parts)
      (and_both (test p) (other p) (and_left (test p) (all test parts) a) (and_left (other p) (all other parts) b))
      (all_both other parts (and_right (test p) (all test parts) a) (and_right (other p) (all other parts) b))

  -- a test fails of one exactly where it does not hold of all
  pub any-fails : (other : ℕ → Bool) (parts : List ℕ) → ((p : ℕ) → other p ≡ not (test p)) → any other parts ≡ not (all test parts)
  unfolding all any
  any-fails other [] h = refl
  any-fails other (p ∷ parts) h = rw (h p, any-fails other parts h) (go (test p) (all test parts))
    where
      go : (a b : Bool) → not a || not b ≡ not (a && b)
      go true b = refl
      go false b = refl

module _ (number : ℕ → ℕ) (test : ℕ → Bool) where
  -- two numberings that agree where a test holds
  pub largest-same : (other : ℕ → ℕ) (parts : List ℕ) → ((p : ℕ) → test p ≡ true → number p ≡ other p) → all test parts ≡ true
      → largest number parts ≡ largest other parts
  unfolding all largest
  largest-same other [] h a = refl
  largest-same other (p ∷ parts) h a =
      rw (h p (and_left (test p) (all test parts) a), largest-same other parts h (and_right (test p) (all test parts) a))

  module _ (k : ℕ) where
    -- numbers that are all below one
    pub largest-below : (parts : List ℕ) → 1 ≤ k → ((p : ℕ) → test p ≡ true → number p < k) → all test parts ≡ true → largest number parts < k
    unfolding all largest
    largest-below [] l h a = omega arith
    largest-below (p ∷ parts) l h a =
        let own : number p < k = h p (and_left (test p) (all test parts) a) in
        let further : largest number parts < k = largest-below parts l h (and_right (test p) (all test parts) a) in
        omega arith

    -- a number that none passes is the largest where one reaches it
    pub largest-reached : (parts : List ℕ) → ((p : ℕ) → number p ≤ k) → ((p : ℕ) → test p ≡ false → 0 < number p → number p ≡ k)
        → all (λ p. ltb 0 (number p)) parts ≡ true → all test parts ≡ false → largest number parts ≡ k
    unfolding all largest
    largest-reached [] few reach a b = clash refl b
    largest-reached (p ∷ parts) few reach a b =
        let own : 0 < number p = ltb-true 0 (number p) (and_left (ltb 0 (number p)) (all (λ q. ltb 0 (number q)) parts) a) in
        let further : all (λ q. ltb 0 (number q)) parts ≡ true = and_right (ltb 0 (number p)) (all (λ q. ltb 0 (number q)) parts) a in
        let low : largest number parts ≤ k = omega (arith, few-largest parts) in
        bool_cases (test p)
        (λ z. omega (arith, few p, largest-reached parts few reach further (sym (both-on (test p) (all test parts) (all test parts) z refl) ∙ b)))
        λ z. omega (arith, reach p z own)
      where
        few-largest : (ps : List ℕ) → largest number ps ≤ k
        few-largest [] = omega arith
        few-largest (q ∷ ps) = omega (arith, few q, few-largest ps)

-- each number is at most the largest
pub below-largest : (number : ℕ → ℕ) (k : ℕ) (parts : List ℕ) → largest number parts < k → all (λ p. ltb (number p) k) parts ≡ true
unfolding all largest
below-largest number k [] h = refl
below-largest number k (p ∷ parts) h =
    and_both (ltb (number p) k) (all (λ q. ltb (number q) k) parts) (lt-ltb (number p) k (omega arith)) (below-largest number k parts (omega arith))

-- "For the clusters before the closing wave, no other numbering from 1 that puts each behind all the others it needs gives any of them a
-- smaller number." The waves are such a numbering. Also nobody closes without cause: clusters that have such a numbering, with all the others
-- that they need among them, are before the closing wave. By induction on the number. Assumes nothing.
use Prim.Native.Nat.{ℕ, zero, suc, ◌+◌, ◌<◌, ◌≤◌}
use mathlib.Core.Path.{◌≡◌, refl, sym, ap, ◌∙◌}
use mathlib.Core.Bool.{Bool, true, ◌&&◌}
use mathlib.Core.Option.{Option, none, some}
use native.Mathlib.Omega.{arith}
use lib.Dec.{ltb}
use borrow.Author.Tests.{ltb-true}
use Rattle.base.proofs.Tests.{and_left, and_right, clash}
use Rattle.clusters.specs.Cluster.{Cluster}
use Rattle.clusters.specs.Table.{Table, find, table_within}
use Rattle.start_waves.specs.StartOrder.{others_needed, all, closing_wave}
use Rattle.start_waves.specs.WaveClaims.{is_cluster, present, start_wave, before_closing, largest, NumbersBehind, WithOthersNeeded}
use Rattle.start_waves.proofs.order.PartLists.{all-also, all_both, largest-below, below-largest}
use Rattle.start_waves.proofs.order.RisingLaws.{found_part}
use Rattle.start_waves.proofs.order.FirstWave.{first-wave, before-with, before-present}

-- the cluster that a table has
found-where : {X : Type 0} (t : Table) (part : ℕ) → present t part ≡ true → ((c : Cluster) → find part t ≡ some c → X) → X
found-where {X} t part h next = go (find part t) refl h
  where
    go : (found : Option Cluster) → find part t ≡ found → is_cluster found ≡ true → X
    go none f e = clash e refl
    go (some c) f e = next c f

module _ (t : Table) (within : table_within t ≡ true) where
  -- the wave of a cluster before the closing one comes behind those of the others that it needs
  wave-follows : (part : ℕ) (c : Cluster) → find part t ≡ some c → before_closing t part ≡ true
      → start_wave t part ≡ 1 + largest (start_wave t) (others_needed c)
  wave-follows part c f b = sym (ap (start_wave t) (found_part part t c f)) ∙ (first-wave t within part c f b).number

  module _ (among : ℕ → Bool) (number : ℕ → ℕ) (with-others : WithOthersNeeded t among) (behind : NumbersBehind t among number) where
    -- the part number is before the closing wave, in a wave that is no larger than the number
    abbrev Early : ℕ → Type 0
    Early part = (before_closing t part ≡ true) × (start_wave t part ≤ number part)

    least-up-to : (k part : ℕ) → number part ≤ k → among part ≡ true → Early part
    least-up-to zero part l a = absurd (omega (arith, behind.from_one part a))
    least-up-to (suc k) part l a =
        found-where t part (with-others.here part a) λ c f.
        let smaller : ℕ → Bool = λ p. among p && ltb (number p) (number part) in
        let all-smaller : all smaller (others_needed c) ≡ true =
        all_both among (λ p. ltb (number p) (number part)) (others_needed c) (with-others.others part c a f) (behind.behind part c a f) in
        let less : (p : ℕ) → smaller p ≡ true → number p < number part = λ p e. ltb-true (number p) (number part) (and_right (among p) _ e) in
        let ih : (p : ℕ) → smaller p ≡ true → Early p = λ p e. least-up-to k p (omega (arith, less p e)) (and_left (among p) (ltb (number p) (number part)) e) in
        let before : before_closing t part ≡ true =
        before-with t within part c f (all-also smaller (before_closing t) (others_needed c) (λ p e. (ih p e).0) all-smaller) in
        let low : largest (start_wave t) (others_needed c) < number part =
        largest-below (start_wave t) smaller (number part) (others_needed c) (behind.from_one part a)
        (λ p e. omega (arith, (ih p e).1, less p e)) all-smaller in
        (before, omega (arith, wave-follows part c f before))

    pub least : (part : ℕ) → among part ≡ true → (before_closing t part ≡ true) × (start_wave t part ≤ number part)
    least part = least-up-to (number part) part (omega arith)

  -- the clusters before the closing wave
  pub early-with-others : WithOthersNeeded t (before_closing t)
  early-with-others = record { here = before-present t within; others = λ p c e f. (first-wave t within p c f e).others-before }

  -- "no other numbering from 1 that puts each behind all the others it needs gives any of them a smaller number"
  pub no-smaller : (number : ℕ → ℕ) → NumbersBehind t (before_closing t) number → (part : ℕ) → before_closing t part ≡ true → start_wave t part ≤ number part
  no-smaller number behind part b = (least (before_closing t) number early-with-others behind part b).1

  -- the waves are such a numbering
  pub waves-number : NumbersBehind t (before_closing t) (start_wave t)
  waves-number =
      record {
        from_one = λ p e. ltb-true 0 (start_wave t p) (and_left (ltb 0 (start_wave t p)) (ltb (start_wave t p) (closing_wave t)) e);
        behind = λ p c e f. below-largest (start_wave t) (start_wave t p) (others_needed c) (omega (arith, wave-follows p c f e));
      }

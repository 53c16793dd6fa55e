-- The loop over the turns: what is counted so far and what is left, and one law for the beginning, a turn and the end. Assumes nothing.
use Prim.Native.Nat.{ℕ, ◌+◌, ◌≤◌, ◌<◌}
use mathlib.Core.Path.{◌≡◌}
use mathlib.Core.Bool.{Bool, true, false, cond}
use mathlib.Core.List.{List}
use native.Mathlib.Omega.{arith}
use native.Mathlib.Numerals.{add-one}
use lib.Dec.{eqb}
use lib.ListN.{length, drop, get_or, drop_of_length-le}
use lib.Seq.{drop-cons}
use Rattle.measured.specs.Turns.{met_at, turns_met}

-- i turns are past, and at so many of them the needs were met
pub record Counted (met : Bool) (turns : List ℕ) (so_far i : ℕ) : Type 0 where
  pub whole : turns_met met turns ≡ so_far + turns_met met (drop i turns)
  pub few : so_far ≤ i

-- a turn counts for at most 1
one_at_most : (met : Bool) (turn : ℕ) → met_at met turn ≤ 1
unfolding met_at
one_at_most met turn = go met (eqb turn 1)
  where
    go : (met is_one : Bool) → cond is_one (cond met 1 0) 0 ≤ 1
    go true true = omega arith
    go false true = omega arith
    go met false = omega arith

module _ (met : Bool) (turns : List ℕ) where
  pub none-counted : Counted met turns 0 0
  none-counted = record { whole = omega arith; few = omega arith }

  module _ (so_far i : ℕ) (so : Counted met turns so_far i) where
    pub few-more : i < length turns → (more : ℕ) → more ≡ met_at met (get_or turns i 0) → so_far + more ≤ length turns
    few-more h more is = omega (arith, so.few, is, one_at_most met (get_or turns i 0))

    pub one-more-counted : i < length turns → (more : ℕ) → more ≡ met_at met (get_or turns i 0) → Counted met turns (so_far + more) (i + 1)
    unfolding turns_met
    one-more-counted h more is =
        let next : turns_met met (drop i turns) ≡ more + turns_met met (drop (i + 1) turns) =
        rw (drop-cons turns i 0 h, add-one, is) in
        record { whole = omega (arith, so.whole, next); few = omega (arith, so.few, is, one_at_most met (get_or turns i 0)) }

    pub all-counted : length turns ≤ i → so_far ≡ turns_met met turns
    unfolding turns_met
    all-counted h =
        let none_left : turns_met met (drop i turns) ≡ 0 = rw (drop_of_length-le turns {i = i} h) in
        omega (arith, so.whole, none_left)

-- One package more counted by its state. Assumes nothing.
use Prim.Native.Nat.{ℕ, ◌+◌, ◌≤◌}
use mathlib.Core.Path.{◌≡◌, ap, ◌∙◌}
use mathlib.Core.Bool.{Bool, true, false, cond}
use mathlib.Core.List.{List, [], ◌∷◌}
use native.Mathlib.Omega.{arith}
use Rattle.model.specs.State.{PackageState, Package}
use Rattle.model.specs.Areas.{count_in}

-- of the first i packages n are in the state, and the others stand behind them
pub record CountedTo (is : PackageState → Bool) (whole n i : ℕ) (rest : List Package) : Type 0 where
  pub few : n ≤ i
  pub sum : whole ≡ n + count_in is rest

module _ (is : PackageState → Bool) (whole : ℕ) where
  pub none-counted : (i : ℕ) (ps : List Package) → whole ≡ count_in is ps → CountedTo is whole 0 i ps
  none-counted i ps e = record { few = omega arith; sum = omega arith }

  pub all-counted : (n i : ℕ) → CountedTo is whole n i [] → n ≡ whole
  unfolding count_in
  all-counted n i c = let e : whole ≡ n + 0 = c.sum in omega arith

  one-few : (holds : Bool) → cond holds 1 0 ≤ 1
  one-few true = omega arith
  one-few false = omega arith

  pub one-counted : (n i one : ℕ) (p : Package) (ps : List Package) (told : Bool) → CountedTo is whole n i (p ∷ ps)
      → one ≡ cond told 1 0 → told ≡ is p.state → CountedTo is whole (n + one) (i + 1) ps
  unfolding count_in
  one-counted n i one p ps told c e t =
      let same : one ≡ cond (is p.state) 1 0 = e ∙ ap (λ (b : Bool). cond b 1 0) t in
      let sum : whole ≡ n + (cond (is p.state) 1 0 + count_in is ps) = c.sum in
      let few = one-few (is p.state) in
      record { few = omega (arith, c.few); sum = omega arith }

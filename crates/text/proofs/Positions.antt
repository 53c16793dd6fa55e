-- What `position` finds, by the place that `position_or_len` gives. Assumes nothing.
use Prim.Native.Nat.{ℕ, ◌≤◌, ◌<◌}
use mathlib.Core.Path.{◌≡◌, sym, ◌∙◌}
use mathlib.Core.Bool.{Bool}
use mathlib.Core.List.{List}
use lib.ListN.{length}
use borrow.Author.Tests.{ltb-true, ltb-false}
use Rattle.std.specs.Prelude.{Some, None, position, nat_lt}
use Rattle.std.specs.List.{position_or_len}
use Rattle.std.proofs.lemmas.Option.{none-some, cond_some}
use Rattle.base.proofs.Tests.{bool_cases}

module _ {X : Type 0} (p : X → Bool) (l : List X) where
  pub position-at : (k : ℕ) → position p l ≡ Some k → (position_or_len p l ≡ k) × (position_or_len p l < length l)
  position-at k e = let found = cond_some _ _ k e in (found.1, ltb-true _ _ found.0)

  pub position-nowhere : position p l ≡ None → length l ≤ position_or_len p l
  position-nowhere e =
      bool_cases (nat_lt (position_or_len p l) (length l)) (λ t. absurd (none-some (position_or_len p l) (sym e ∙ rw t))) (λ f. ltb-false _ _ f)

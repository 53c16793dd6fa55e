-- The first places of an array: a store behind those in use, and what is seen of it. Assumes nothing.
use Prim.Native.Nat.{ℕ, ◌<◌}
use mathlib.Core.Path.{◌≡◌, refl, ap}
use mathlib.Core.List.{List, [], ◌∷◌, ◌++◌}
use native.Mathlib.Omega.{arith}
use lib.ListN.{length, take, drop, set}
use lib.Seq.{take_at}
use Rattle.areas.specs.FirstPlaces.{put_first}

module _ {A : Type 0} where
  pub put-first-more : (first xs : List A) (x : A) → length first < length xs
      → set (put_first first xs) (length first) x ≡ put_first (first ++ x ∷ []) xs
  put-first-more first [] x h = absurd (omega arith)
  put-first-more [] (y ∷ xs) x h = refl
  put-first-more (f ∷ first) (y ∷ xs) x h = ap (λ (l : List A). f ∷ l) (put-first-more first xs x (omega arith))

  pub take-first : (first xs : List A) (n : ℕ) → length first ≡ n → take n (put_first first xs) ≡ first
  take-first first xs n e = take_at first (drop (length first) xs) n e

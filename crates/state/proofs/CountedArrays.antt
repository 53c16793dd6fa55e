-- An array with a count, seen through a function on its elements: after a store behind those that count, and after a store at one of
-- them. Assumes nothing.
use Prim.Native.Nat.{ℕ, ◌+◌, ◌≤◌, ◌<◌}
use mathlib.Core.Path.{◌≡◌, sym, ap, ◌∙◌}
use mathlib.Core.List.{List, [], ◌∷◌, ◌++◌, map, map-append}
use native.Mathlib.Omega.{arith}
use lib.ListN.{length, take}
use Rattle.base.specs.Counted.{counted}
use Rattle.base.proofs.Counted.{counted-few}
use Rattle.clusters.specs.Exact.{put_at}
use Rattle.clusters.proofs.Arrays.{first-put}
use Rattle.actions.proofs.Arrays.{take_put, map-put}

module _ {A B : Type 0} (f : A → B) (most : ℕ) (d : A) where
  -- a store behind the last, and the count raised: one element more at the end
  pub one_more : (n : ℕ) (x : A) (xs : List A) → n < most
      → map f (counted most d (n + 1) (put_at n x xs)) ≡ map f (counted most d n xs) ++ f x ∷ []
  one_more n x xs h =
      ap (map f) (counted-few most (n + 1) d (put_at n x xs) (omega arith) ∙ first-put n x xs)
      ∙ map-append f (take n xs) (x ∷ [])
      ∙ ap (λ (l : List A). map f l ++ f x ∷ []) (sym (counted-few most n d xs (omega arith)))

  -- a store at one that counts
  pub one-changed : (n i : ℕ) (x : A) (xs : List A) → n ≤ most → i < n → i < length xs
      → map f (counted most d n (put_at i x xs)) ≡ put_at i (f x) (map f (counted most d n xs))
  one-changed n i x xs h below long =
      ap (map f) (counted-few most n d (put_at i x xs) h ∙ take_put i n x xs below long)
      ∙ map-put f i x (take n xs)
      ∙ ap (λ (l : List A). put_at i (f x) (map f l)) (sym (counted-few most n d xs h))

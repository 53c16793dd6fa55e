-- Laws of an array's first elements, for any element type: what stands there after a store. Assumes nothing.
use Prim.Native.Nat.{ℕ, ◌+◌, ◌≤◌, ◌<◌, min}
use mathlib.Core.Path.{◌≡◌}
use mathlib.Core.List.{List, [], ◌∷◌, ◌++◌, append-nil}
use native.Mathlib.Numerals.{add-one}
use native.Mathlib.Omega.{arith}
use lib.Dec.{leb}
use lib.ListN.{length, take, drop, set, length-take, length-append, drop_of_length-le}
use lib.Seq.{append_snoc, set_split, take_at, take_all}
use borrow.Author.Tests.{leb-true, leb-false}
use Rattle.base.proofs.Tests.{bool_cases}
use Rattle.clusters.specs.Exact.{put_at}

module _ {A : Type 0} where
  -- a store of the code
  pub set-put : (xs : List A) (i : ℕ) (x : A) → i < length xs → set xs i x ≡ put_at i x xs
  set-put xs i x h = rw (set_split xs i x h, add-one)

  -- `front` and then what stands behind k: a front shorter than k has nothing behind it
  pub first_of : (front behind : List A) (k : ℕ) → length front ≤ k → (length front < k → behind ≡ []) → take k (front ++ behind) ≡ front
  first_of front behind k le short =
      bool_cases (leb k (length front))
      (λ e. take_at front behind k (omega (arith, leb-true k (length front) e)))
      λ e. rw (short (leb-false k (length front) e), append-nil front) (take_all k front le)

  pub first-put : (n : ℕ) (x : A) (xs : List A) → take (n + 1) (put_at n x xs) ≡ take n xs ++ x ∷ []
  first-put n x xs =
      let front = take n xs ++ (x ∷ []) in
      let long : length front ≡ min n (length xs) + 1 = simp (length-append, length-take) in
      rw (← append_snoc (take n xs) x (drop (n + 1) xs))
      (first_of front (drop (n + 1) xs) (n + 1) (omega arith) λ l. drop_of_length-le xs {i = n + 1} (omega arith))

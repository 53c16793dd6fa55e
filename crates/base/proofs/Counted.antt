-- An array's first elements as a list: when the count fits, and the list that a loop goes along. Assumes nothing.
use Prim.Native.Nat.{ℕ, ◌+◌, ◌≤◌, ◌<◌}
use mathlib.Core.Path.{◌≡◌, refl, sym, ◌∙◌}
use mathlib.Core.Bool.{Bool, true, false, cond}
use mathlib.Core.List.{List, [], ◌∷◌, map}
use native.Mathlib.Numerals.{add-one}
use native.Mathlib.Omega.{arith}
use lib.Dec.{leb}
use lib.ListN.{length, take, drop, get_or, replicate, length-take, length-map, length-replicate, get_or-map, drop_of_length-le}
use lib.Seq.{drop-cons, get_or-take}
use borrow.Author.Tests.{le-leb, leb-true}
use Rattle.base.specs.Counted.{counted}

-- what owning a struct with an array of structs tells of the array's list
pub unmapped : (X Y : Type 0) (f : X → Y) (l : List X) (n : ℕ) → length (map f l) ≡ n → length l ≡ n
unmapped X Y f l n p = sym (length-map l f) ∙ p

module _ {A : Type 0} (most n : ℕ) (d : A) (xs : List A) where
  -- a count above the room makes a list that is too long, and only that does
  pub counted-fits : leb (length (counted most d n xs)) most ≡ leb n most
  counted-fits = go (leb n most) refl
    where
      go : (b : Bool) → leb n most ≡ b → leb (length (cond b (take n xs) (replicate n d))) most ≡ b
      go true e = le-leb (length (take n xs)) most (rw length-take (omega (arith, leb-true n most e)))
      go false e = rw length-replicate e

  pub counted-few : n ≤ most → counted most d n xs ≡ take n xs
  counted-few h = rw (le-leb n most h)

-- an array's first n elements, as a loop goes along them
module _ {A : Type 0} (xs : List A) (n : ℕ) (le : n ≤ length xs) where
  length_seen : length (take n xs) ≡ n
  length_seen = simp length-take (omega arith)

  -- what stands from i on: the element at i, then what stands from i + 1 on
  pub seen_step : (i : ℕ) (d : A) → i < n → drop i (take n xs) ≡ get_or xs i d ∷ drop (i + 1) (take n xs)
  seen_step i d h =
      let l : i < length (take n xs) = rw length_seen h in
      rw (drop-cons (take n xs) i d l, get_or-take n xs i d h, add-one)

  pub seen_end : (i : ℕ) → n ≤ i → drop i (take n xs) ≡ []
  seen_end i h = drop_of_length-le (take n xs) {i = i} (rw length_seen h)

-- the same where each element is seen through a view
module _ {A B : Type 0} (f : A → B) (xs : List A) (n : ℕ) (le : n ≤ length xs) where
  length-first : length (map f (take n xs)) ≡ n
  length-first = simp (length-map, length-take) (omega arith)

  pub from_step : (i : ℕ) (d : A) → i < n → drop i (map f (take n xs)) ≡ f (get_or xs i d) ∷ drop (i + 1) (map f (take n xs))
  from_step i d h =
      let l : i < length (map f (take n xs)) = rw length-first h in
      rw (drop-cons (map f (take n xs)) i (f d) l, get_or-map f (take n xs) i d, get_or-take n xs i d h, add-one)

  pub from_end : (i : ℕ) → n ≤ i → drop i (map f (take n xs)) ≡ []
  from_end i h = drop_of_length-le (map f (take n xs)) {i = i} (rw length-first h)

-- Laws of an array's first elements, for any element type: what moving up and moving down makes of them, and what stands there
-- after a change, however long the array is. Assumes nothing.
use Prim.Native.Nat.{ℕ, zero, suc, ◌+◌, ◌-◌, ◌≤◌, ◌<◌, min}
use mathlib.Core.Path.{◌≡◌, refl, sym, ap, ◌∙◌}
use mathlib.Core.List.{List, [], ◌∷◌, ◌++◌, map, append_assoc, map-append}
use native.Mathlib.Numerals.{add-one}
use native.Mathlib.Omega.{arith}
use lib.ListN.{length, take, drop, set, length-take, length-append, length-drop, drop_of_length-le}
use lib.Seq.{take-set-lt, set_split, take-take}
use Rattle.std.specs.List.{copy_within}
use Rattle.std.proofs.lemmas.List.{drop-take, take-append-le, drop-append-le}
use Rattle.clusters.specs.Exact.{put_at}
use Rattle.clusters.proofs.Arrays.{set-put, first_of}

module _ {A : Type 0} where
  -- what stands from i on up to n
  between : (i n : ℕ) (xs : List A) → i ≤ n → drop i (take n xs) ≡ take (n - i) (drop i xs)
  between i n xs h = let e : n ≡ i + (n - i) = omega arith in ap (λ (k : ℕ). drop i (take k xs)) e ∙ drop-take i (n - i) xs

  -- what stands from i on up to n is copied up by one, and x put at i
  pub moved-up : (i n : ℕ) (x : A) (xs : List A) → i ≤ n → n < length xs
      → set (copy_within xs i n (i + 1)) i x ≡ (take i xs ++ x ∷ drop i (take n xs)) ++ drop (n + 1) xs
  moved-up i n x xs h l =
      let head = take (i + 1) xs in
      let rest = take (n - i) (drop i xs) ++ drop (i + 1 + (n - i)) xs in
      let long : length head ≡ i + 1 = simp length-take (omega arith) in
      let first : take i (head ++ rest) ≡ take i xs = take-append-le i head rest (omega arith) ∙ take-take i (i + 1) xs (omega arith) in
      let behind : drop (i + 1) (head ++ rest) ≡ rest = drop-append-le (i + 1) head rest (omega arith) ∙ ap (λ (l : List A). l ++ rest) (drop_of_length-le head {i = i + 1} (omega arith)) in
      let end : i + 1 + (n - i) ≡ n + 1 = omega arith in
      let parts : set (head ++ rest) i x ≡ take i (head ++ rest) ++ x ∷ drop (i + 1) (head ++ rest) =
      set_split (head ++ rest) i x (omega (arith, length-append head rest)) ∙ ap (λ (k : ℕ). take i (head ++ rest) ++ x ∷ drop k (head ++ rest)) (sym (add-one i)) in
      ap (λ (l : List A). set l i x) (append_assoc head (take (n - i) (drop i xs)) (drop (i + 1 + (n - i)) xs)) ∙ parts
      ∙ rw (first, behind, end, between i n xs h) (sym (append_assoc (take i xs) (x ∷ take (n - i) (drop i xs)) (drop (n + 1) xs)))

  -- what stands behind i up to n is copied down by one
  pub moved-down : (i n : ℕ) (xs : List A) → i < n → copy_within xs (i + 1) n i ≡ (take i xs ++ drop (i + 1) (take n xs)) ++ drop (n - 1) xs
  moved-down i n xs h =
      let end : i + (n - (i + 1)) ≡ n - 1 = omega arith in
      rw (between (i + 1) n xs (omega arith), end)

  -- ---- the first elements after a change

  pub first-insert : (i n : ℕ) (x : A) (xs : List A) → i ≤ n
      → take (n + 1) ((take i xs ++ x ∷ drop i (take n xs)) ++ drop (n + 1) xs) ≡ take i (take n xs) ++ x ∷ drop i (take n xs)
  first-insert i n x xs h =
      let front = take i xs ++ x ∷ drop i (take n xs) in
      let long : length front ≡ min i (length xs) + (1 + (min n (length xs) - i)) = simp (length-append, length-drop, length-take) (omega arith) in
      first_of front (drop (n + 1) xs) (n + 1) (omega arith) (λ l. drop_of_length-le xs {i = n + 1} (omega arith)) ∙ rw (take-take i n xs h)

  pub first-close : (i n : ℕ) (xs : List A) → i < n → i < length xs
      → take (n - 1) ((take i xs ++ drop (i + 1) (take n xs)) ++ drop (n - 1) xs) ≡ take i (take n xs) ++ drop (i + 1) (take n xs)
  first-close i n xs h l =
      let front = take i xs ++ drop (i + 1) (take n xs) in
      let long : length front ≡ min i (length xs) + (min n (length xs) - (i + 1)) = simp (length-append, length-drop, length-take) in
      first_of front (drop (n - 1) xs) (n - 1) (omega arith) (λ z. drop_of_length-le xs {i = n - 1} (omega arith)) ∙ rw (take-take i n xs (omega arith))

  pub take_put : (i n : ℕ) (x : A) (xs : List A) → i < n → i < length xs → take n (put_at i x xs) ≡ put_at i x (take n xs)
  take_put i n x xs h l =
      ap (take n) (sym (set-put xs i x l)) ∙ take-set-lt n xs i x h ∙ set-put (take n xs) i x (omega (arith, length-take n xs))

  -- ---- no change makes an array longer or shorter

  pub length-put : (i : ℕ) (x : A) (xs : List A) → i < length xs → length (put_at i x xs) ≡ length xs
  length-put i x xs h = simp (length-append, length-take, length-drop) (omega arith)

  pub length-insert-at : (i n : ℕ) (x : A) (xs : List A) → i ≤ n → n < length xs → length ((take i xs ++ x ∷ drop i (take n xs)) ++ drop (n + 1) xs) ≡ length xs
  length-insert-at i n x xs h l = simp (length-append, length-take, length-drop) (omega arith)

  pub length-close : (i n : ℕ) (xs : List A) → i < n → n ≤ length xs → length ((take i xs ++ drop (i + 1) (take n xs)) ++ drop (n - 1) xs) ≡ length xs
  length-close i n xs h l = simp (length-append, length-take, length-drop) (omega arith)

-- ---- lists under a function

module _ {A B : Type 0} (f : A → B) where
  pub map-take : (n : ℕ) (xs : List A) → map f (take n xs) ≡ take n (map f xs)
  map-take zero xs = refl
  map-take (suc n) [] = refl
  map-take (suc n) (x ∷ xs) = ap (λ (l : List B). f x ∷ l) (map-take n xs)

  pub map-drop : (n : ℕ) (xs : List A) → map f (drop n xs) ≡ drop n (map f xs)
  map-drop zero xs = refl
  map-drop (suc n) [] = refl
  map-drop (suc n) (x ∷ xs) = map-drop n xs

  pub map-put : (i : ℕ) (x : A) (xs : List A) → map f (put_at i x xs) ≡ put_at i (f x) (map f xs)
  map-put i x xs = map-append f (take i xs) (x ∷ drop (i + 1) xs) ∙ rw (map-take i xs, map-drop (i + 1) xs)

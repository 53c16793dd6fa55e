-- What a run of stores leaves in a buffer, in the form in which the writers know it. Assumes nothing.
use Prim.Native.Nat.{ℕ, suc, ◌+◌, ◌-◌, ◌/◌, ◌%◌, ◌≤◌, ◌<◌}
use mathlib.Core.Path.{◌≡◌, refl, sym, ap, ◌∙◌}
use mathlib.Core.Logic.{◌≢◌}
use mathlib.Core.List.{List, [], ◌∷◌, ◌++◌, append_assoc}
use native.Mathlib.Omega.{arith}
use native.Mathlib.Nat.{add-zero, add-suc, suc-add}
use lib.ListN.{length, take, length-append, set, length-set}
use lib.Seq.{sets, length-sets, set_comm, sets-eq}
use borrow.Rule.Slice.PartMut.{put_mid, Post-is}
use Rattle.text.specs.Digits.{digits}
use Rattle.text.specs.Put.{Put}
use Rattle.text.proofs.DigitLaws.{digits-small, digits-large, length-small, length-large}

-- to store xs and then ys behind it is to store xs ++ ys
pub sets-append : (xs ys l : List ℕ) (i : ℕ) → sets l i (xs ++ ys) ≡ sets (sets l i xs) (i + length xs) ys
sets-append [] ys l i = rw add-zero
sets-append (x ∷ xs) ys l i = sets-append xs ys (set l i x) (suc i) ∙ rw (suc-add, ← add-suc)

module _ (l : List ℕ) (at : ℕ) where
  -- nothing put, and one byte put
  pub put-nothing : Put l at [] at l
  put-nothing = record { behind = sym (add-zero at); bytes = refl }

  pub put_byte : (b : ℕ) → Put l at (b ∷ []) (at + 1) (set l at b)
  put_byte b = record { behind = refl; bytes = refl }

  -- one text put, and then another behind it
  pub put_then : (xs ys m k : List ℕ) (r q : ℕ) → Put l at xs r m → Put m r ys q k → Put l at (xs ++ ys) q k
  put_then xs ys m k r q f g = record {
    behind = omega (arith, length-append xs ys);
    bytes = g.bytes ∙ rw (f.bytes, f.behind) (sym (sets-append xs ys l at));
  }

  -- a byte stored, and then a text put behind it
  pub put-cons : (b : ℕ) (ys k : List ℕ) (q : ℕ) → Put (set l at b) (at + 1) ys q k → Put l at (b ∷ ys) q k
  put-cons b ys k q g = put_then (b ∷ []) ys _ k _ q (put_byte b) g

  -- a text put, and then a byte stored behind it
  pub put_last : (xs m : List ℕ) (r b : ℕ) → Put l at xs r m → Put l at (xs ++ (b ∷ [])) (r + 1) (set m r b)
  put_last xs m r b f = put_then xs (b ∷ []) m _ r _ f (record { behind = refl; bytes = refl })

  -- a writer leaves the buffer as long as it was
  pub put-length : (xs m : List ℕ) (r : ℕ) → Put l at xs r m → length m ≡ length l
  put-length xs m r f = ap length f.bytes ∙ length-sets l at xs

  -- room for the first of two texts, and for the second once the first is put
  pub room-first : (xs ys : List ℕ) → at + length (xs ++ ys) ≤ length l → at + length xs ≤ length l
  room-first xs ys o = omega (arith, length-append xs ys)

  pub room_next : (xs ys m : List ℕ) (r : ℕ) → at + length (xs ++ ys) ≤ length l → Put l at xs r m → r + length ys ≤ length m
  room_next xs ys m r o f = omega (arith, length-append xs ys, put-length xs m r f)

  pub room_cons : (b : ℕ) (ys : List ℕ) → at + length (b ∷ ys) ≤ length l → at + 1 + length ys ≤ length (set l at b)
  room_cons b ys o = simp length-set (omega arith)

  -- a text copied into a part of the buffer
  pub put_copied : (xs ys : List ℕ) → at + length xs ≤ length l → ys ≡ xs → Put l at xs (at + length xs) (put_mid at (at + length xs - at) l ys)
  put_copied xs ys o e = record {
    behind = refl;
    bytes = rw (e, Post-is at (at + length xs) l (omega arith)) (sym (append_assoc (take at l) xs _) ∙ sym (sets-eq xs l at o));
  }

-- ---- digits stored from the last to the first

-- a store behind a run of stores may come first
store-before : (xs l : List ℕ) (i j d : ℕ) → i + length xs ≤ j → sets (set l j d) i xs ≡ set (sets l i xs) j d
store-before [] l i j d h = refl
store-before (x ∷ xs) l i j d h =
    let o : j ≢ i = omega arith in
    rw (set_comm l j i d x o) (store-before xs (set l i x) (suc i) j d (omega arith))

-- with the last digit of n stored, the digits of n / 10 are left to store
pub rest-digits : (l e : List ℕ) (at n i : ℕ) → 10 ≤ n → sets l at (digits n) ≡ e → i ≡ at + length (digits n)
    → sets (set l (i - 1) (48 + n % 10)) at (digits (n / 10)) ≡ e
rest-digits l e at n i h q p =
    let o : i - 1 ≡ at + length (digits (n / 10)) = omega (arith, length-large n h) in
    rw (o, store-before (digits (n / 10)) l at (at + length (digits (n / 10))) (48 + n % 10) (omega arith))
    (rw (digits-large n h, sets-append (digits (n / 10)) _ l at) at q)

pub first-digit : (l l₀ : List ℕ) (at m n w : ℕ) → m < 10 → sets l at (digits m) ≡ sets l₀ at (digits n) → w ≡ length (digits n)
    → Put l₀ at (digits n) (at + w) (set l at (48 + m))
first-digit l l₀ at m n w h q p = record { behind = omega arith; bytes = rw (digits-small m h) at q }

-- for `using`, where texts are put one behind the other, and where digits are
pub ruleset putting = (put-cons, room-first, room_next, room_cons)

pub ruleset digits_put = (length-small, length-large, rest-digits, first-digit)

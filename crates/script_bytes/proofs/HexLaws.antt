-- Digits and the bytes that they stand for, at a position, for each test and store that the code makes there. Assumes nothing.
use Prim.Native.Nat.{ℕ, zero, suc, ◌+◌, ◌*◌, ◌/◌, ◌%◌, ◌≤◌, ◌<◌}
use mathlib.Core.Path.{◌≡◌, refl, sym, ap, ◌∙◌}
use mathlib.Core.Bool.{Bool, true, false, ◌&&◌}
use mathlib.Core.List.{List, [], ◌∷◌, ◌++◌}
use native.Mathlib.Numerals.{add-one}
use native.Mathlib.Omega.{arith}
use lib.ListN.{length, get_or, drop, drop_of_length-le, set}
use lib.Seq.{drop-cons}
use lib.Dec.{eqb}
use borrow.Author.Tests.{eq-eqb, ne_eqb, ltb-true}
use Rattle.std.specs.List.{list_all}
use Rattle.base.proofs.Tests.{and_left, and_right, bool_cases, clash, cond-false, cond-true}
use Rattle.text.specs.Meaning.{each_byte}
use Rattle.text.specs.Put.{Put}
use Rattle.text.proofs.Putting.{Putting, putting-room, putting-on, bytes_on, bytes-done}
use Rattle.script_bytes.specs.Hex.{digit_value, digit_byte, is_digit, is_digits, digits_bytes, byte_digits, bytes_digits}

-- ---- whether a word is digits

each-is-all : (test : ℕ → Bool) (l : List ℕ) → list_all test l ≡ each_byte test l
unfolding each_byte
each-is-all test [] = refl
each-is-all test (b ∷ l) = ap (λ rest. test b && rest) (each-is-all test l)

module _ (s : List ℕ) where
  pub digits-odd : (length s % 2 ≡ 0 → ⊥) → eqb (length s % 2) 0 ≡ is_digits s
  unfolding is_digits
  digits-odd h = let o : length s % 2 ≡ 1 = omega arith in rw (eq-eqb _ _ o, ne_eqb _ _ h)

  pub digits-even : (r : Bool) → (length s % 2 ≡ 1 → ⊥) → r ≡ list_all is_digit s → r ≡ is_digits s
  unfolding is_digits
  digits-even r h e = rw (ne_eqb _ _ h) (e ∙ each-is-all is_digit s)

-- ---- the bytes of digits

pub length-digits-bytes : (l : List ℕ) → length (digits_bytes l) ≡ length l / 2
unfolding digits_bytes
length-digits-bytes [] = refl
length-digits-bytes (a ∷ []) = refl
length-digits-bytes (a ∷ b ∷ l) = omega (arith, length-digits-bytes l)

pub digits-byte-at : (l : List ℕ) (i : ℕ) → i < length l / 2
    → get_or (digits_bytes l) i 0 ≡ 16 * digit_value (get_or l (2 * i) 0) + digit_value (get_or l (2 * i + 1) 0)
unfolding digits_bytes
digits-byte-at [] i h = absurd (omega arith)
digits-byte-at (a ∷ []) i h = absurd (omega arith)
digits-byte-at (a ∷ b ∷ l) zero h = refl
digits-byte-at (a ∷ b ∷ l) (suc i) h =
    let e : 2 * suc i ≡ suc (suc (2 * i)) = omega arith in
    let n : 2 * suc i + 1 ≡ suc (suc (2 * i + 1)) = omega arith in
    digits-byte-at l i (omega arith) ∙ rw (n, e)

each-digit : (l : List ℕ) (k : ℕ) → each_byte is_digit l ≡ true → k < length l → digit_value (get_or l k 0) < 16
unfolding each_byte is_digit
each-digit [] k t h = absurd (omega arith)
each-digit (b ∷ l) zero t h = ltb-true _ _ (and_left (is_digit b) (each_byte is_digit l) t)
each-digit (b ∷ l) (suc k) t h = each-digit l k (and_right (is_digit b) (each_byte is_digit l) t) (omega arith)

digit_at : (l : List ℕ) (k : ℕ) → is_digits l ≡ true → k < length l → digit_value (get_or l k 0) < 16
unfolding is_digits
digit_at l k t h =
    bool_cases (eqb (length l % 2) 1)
    (λ o. clash {X = digit_value (get_or l k 0) < 16} t (cond-true false (each_byte is_digit l) o))
    (λ f. each-digit l k (sym (cond-false false (each_byte is_digit l) f) ∙ t) h)

-- the two digits of byte number i
module _ (w : List ℕ) (i : ℕ) (t : is_digits w ≡ true) (h : i < length w / 2) where
  pub high_digit : digit_value (get_or w (2 * i) 0) < 16
  high_digit = digit_at w (2 * i) t (omega arith)

  pub low_digit : digit_value (get_or w (2 * i + 1) 0) < 16
  low_digit = digit_at w (2 * i + 1) t (omega arith)

-- the room for one byte more, the byte put, and all bytes put
pub digits-byte-room : (old : List ℕ) (from : ℕ) (w new : List ℕ) (i : ℕ) → i < length w / 2 → from + length (digits_bytes w) ≤ length old
    → Putting old from (digits_bytes w) new (from + i) (drop i (digits_bytes w)) → from + i < length new
digits-byte-room old from w new i h o p = omega (arith, length-digits-bytes w, p.long)

pub digits-byte-put : (old : List ℕ) (from : ℕ) (w new : List ℕ) (i b : ℕ) → i < length w / 2
    → b ≡ 16 * digit_value (get_or w (2 * i) 0) + digit_value (get_or w (2 * i + 1) 0)
    → Putting old from (digits_bytes w) new (from + i) (drop i (digits_bytes w))
    → Putting old from (digits_bytes w) (set new (from + i) b) (from + (i + 1)) (drop (i + 1) (digits_bytes w))
digits-byte-put old from w new i b h e p =
    let g : get_or (digits_bytes w) i 0 ≡ b = digits-byte-at w i h ∙ sym e in
    rw g at (bytes_on old from (digits_bytes w) new i (omega (arith, length-digits-bytes w)) p)

pub digits-bytes-done : (old : List ℕ) (from : ℕ) (w new : List ℕ) (i : ℕ) → length w / 2 ≤ i → i ≤ length w / 2
    → Putting old from (digits_bytes w) new (from + i) (drop i (digits_bytes w)) → Put old from (digits_bytes w) (from + length w / 2) new
digits-bytes-done old from w new i h o p =
    let e : i ≡ length w / 2 = omega arith in
    rw e at (bytes-done old from (digits_bytes w) new i (omega (arith, length-digits-bytes w)) p)

-- ---- digits put: two for each byte

pub put-pair : (l : List ℕ) (at high low b : ℕ) → high ≡ digit_byte (b / 16) → low ≡ digit_byte (b % 16)
    → Put l at (byte_digits b) (at + 2) (set (set l at high) (at + 1) low)
unfolding byte_digits
put-pair l at high low b e f = record { behind = refl; bytes = rw (e, f, add-one) }

module _ (s : List ℕ) where
  next-digits : (i : ℕ) → i < length s → bytes_digits (drop i s) ≡ byte_digits (get_or s i 0) ++ bytes_digits (drop (i + 1) s)
  unfolding bytes_digits byte_digits
  next-digits i h = rw (drop-cons s i 0 h, add-one)

  module _ (old : List ℕ) (from : ℕ) (new : List ℕ) (at i : ℕ) (h : i < length s)
      (p : Putting old from (bytes_digits s) new at (bytes_digits (drop i s))) where
    pub digits-room : from + length (bytes_digits s) ≤ length old → at + length (byte_digits (get_or s i 0)) ≤ length new
    digits-room o = putting-room old from (bytes_digits s) new at (bytes_digits (drop i s)) p (byte_digits (get_or s i 0)) (bytes_digits (drop (i + 1) s)) (next-digits i h) o

    pub digits-put : (newer : List ℕ) (next : ℕ) → Put new at (byte_digits (get_or s i 0)) next newer
        → Putting old from (bytes_digits s) newer next (bytes_digits (drop (i + 1) s))
    digits-put newer next f = putting-on old from (bytes_digits s) new at (bytes_digits (drop i s)) p (byte_digits (get_or s i 0)) (bytes_digits (drop (i + 1) s)) (next-digits i h) newer next f

  pub digits-done : (i : ℕ) → length s ≤ i → bytes_digits (drop i s) ≡ []
  unfolding bytes_digits
  digits-done i h = rw (drop_of_length-le s h)

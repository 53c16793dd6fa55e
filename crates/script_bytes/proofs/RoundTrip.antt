-- The digits of an answer read back as the bytes that they were made of, and digits put in parts are those of the whole. Assumes nothing.
use Prim.Native.Nat.{ℕ, ◌+◌, ◌*◌, ◌/◌, ◌%◌, ◌≤◌, ◌<◌}
use mathlib.Core.Path.{◌≡◌, refl, ap}
use mathlib.Core.Bool.{true}
use mathlib.Core.List.{List, [], ◌∷◌, ◌++◌}
use native.Mathlib.Omega.{arith}
use lib.Dec.{ltb}
use lib.ListN.{length}
use borrow.Author.Tests.{lt-ltb, le-ltb, le-leb, lt-leb, ne_eqb, ltb-true, ltb-false}
use Rattle.std.specs.Prelude.{Some}
use Rattle.base.proofs.Tests.{and_left, and_right, bool_cases}
use Rattle.text.specs.Meaning.{each_byte}
use Rattle.text.specs.Word.{same_bytes}
use Rattle.script_bytes.specs.declared.form.Form.TheVariants.{Digits}
use Rattle.script_bytes.specs.Hex.{digit_value, digit_byte, is_digit, is_digits, digits_bytes, bytes_digits, answer_digits, is_byte}
use Rattle.script_bytes.specs.Block.{equals, form_of, block_bytes}
use Rattle.script_bytes.specs.Open.{computing}

-- `-` of an answer
abbrev minus : ℕ
minus = 45

-- ---- a value as a digit

module _ (v : ℕ) where
  small-back : v < 10 → digit_value (digit_byte v) ≡ v
  unfolding digit_value digit_byte
  small-back h = rw (lt-ltb v 10 h, le-ltb (48 + v) 48 (omega arith), le-leb (48 + v) 57 (omega arith)) (omega arith)

  large-back : 10 ≤ v → v < 16 → digit_value (digit_byte v) ≡ v
  unfolding digit_value digit_byte
  large-back o h =
      rw (le-ltb v 10 o, le-ltb (87 + v) 48 (omega arith), lt-leb (87 + v) 57 (omega arith), le-ltb (87 + v) 97 (omega arith), le-leb (87 + v) 102 (omega arith))
      (omega arith)

  -- a value as a digit has that value
  pub digit-back : v < 16 → digit_value (digit_byte v) ≡ v
  digit-back h = bool_cases (ltb v 10) (λ t. small-back (ltb-true v 10 t)) (λ f. large-back (ltb-false v 10 f) h)

  digit-is : v < 16 → is_digit (digit_byte v) ≡ true
  unfolding is_digit
  digit-is h = rw (digit-back h, lt-ltb v 16 h)

  -- no digit is the first byte of another form
  no-mark : v < 16 → (mark : ℕ) → 16 ≤ digit_value mark → digit_byte v ≡ mark → ⊥
  no-mark h mark o e = omega (arith, digit-back h, ap digit_value e)

equals-marks : 16 ≤ digit_value equals
unfolding digit_value
equals-marks = omega arith

minus-marks : 16 ≤ digit_value minus
unfolding digit_value
minus-marks = omega arith

-- ---- digits put in parts

pub digits_append : (xs ys : List ℕ) → bytes_digits (xs ++ ys) ≡ bytes_digits xs ++ bytes_digits ys
unfolding bytes_digits
digits_append [] ys = refl
digits_append (b ∷ xs) ys = rw (digits_append xs ys)

pub length_digits : (l : List ℕ) → length (bytes_digits l) ≡ 2 * length l
unfolding bytes_digits
length_digits [] = refl
length_digits (b ∷ l) = omega (arith, length_digits l)

-- ---- the digits of bytes

pub digits-back : (l : List ℕ) → each_byte is_byte l ≡ true → digits_bytes (bytes_digits l) ≡ l
unfolding each_byte is_byte bytes_digits digits_bytes
digits-back [] h = refl
digits-back (b ∷ l) h =
    let o : b < 256 = ltb-true b 256 (and_left (ltb b 256) (each_byte is_byte l) h) in
    let e : 16 * (b / 16) + b % 16 ≡ b = omega arith in
    rw (digit-back (b / 16) (omega arith), digit-back (b % 16) (omega arith), e, digits-back l (and_right (ltb b 256) (each_byte is_byte l) h))

each-digit-of : (l : List ℕ) → each_byte is_byte l ≡ true → each_byte is_digit (bytes_digits l) ≡ true
unfolding each_byte is_byte bytes_digits
each-digit-of [] h = refl
each-digit-of (b ∷ l) h =
    let o : b < 256 = ltb-true b 256 (and_left (ltb b 256) (each_byte is_byte l) h) in
    rw (digit-is (b / 16) (omega arith), digit-is (b % 16) (omega arith)) (each-digit-of l (and_right (ltb b 256) (each_byte is_byte l) h))

pub digits_are : (l : List ℕ) → each_byte is_byte l ≡ true → is_digits (bytes_digits l) ≡ true
unfolding is_digits
digits_are l h = rw (ne_eqb (length (bytes_digits l) % 2) 1 (λ z. omega (arith, length_digits l))) (each-digit-of l h)

-- ---- `HEX` of an answer as `BYTES` of a line

module _ (b : ℕ) (l : List ℕ) (h : each_byte is_byte (b ∷ l) ≡ true) where
  high : b / 16 < 16
  unfolding each_byte is_byte
  high = let o : b < 256 = ltb-true b 256 (and_left (ltb b 256) (each_byte is_byte l) h) in omega arith

  pub answer-form : form_of (answer_digits (b ∷ l)) ≡ Some Digits
  unfolding form_of answer_digits bytes_digits same_bytes
  answer-form =
      rw (ne_eqb (digit_byte (b / 16)) equals (no-mark (b / 16) high equals equals-marks), ne_eqb (digit_byte (b / 16)) minus (no-mark (b / 16) high minus minus-marks))
      (rw (le-ltb (length (bytes_digits (b ∷ l))) 1 (omega arith), digits_are (b ∷ l) h))

  answer-some : block_bytes (answer_digits (b ∷ l)) ≡ b ∷ l
  unfolding block_bytes answer_digits
  answer-some = rw answer-form (digits-back (b ∷ l) h)

pub answer_back : (l : List ℕ) → each_byte is_byte l ≡ true → block_bytes (answer_digits l) ≡ l
unfolding computing
answer_back [] h = refl
answer_back (b ∷ l) h = answer-some b l h

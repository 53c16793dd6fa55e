-- "an even number of the digits `0-9a-f`", and the bytes that they stand for. "In answers `HEX` is the first form, or `-`."
use Rattle.std.specs.Prelude.{ℕ, ◌+◌, ◌-◌, ◌*◌, ◌/◌, ◌%◌, Bool, false, cond, List, [], ◌∷◌, length, ltb, leb, eqb}
use Rattle.base.specs.Quoted.{bytes}
use Rattle.text.specs.Meaning.{each_byte}

-- the value of a digit of `0-9a-f`, and 16 of any other byte: "upper-case hex digits" are none
unfoldable pub digit_value : ℕ → ℕ
digit_value b =
    cond (ltb b 48) 16
    (cond (leb b 57) (b - 48)
    (cond (ltb b 97) 16
    (cond (leb b 102) (b - 87) 16)))

-- the digit of a value below 16
unfoldable pub digit_byte : ℕ → ℕ
digit_byte value = cond (ltb value 10) (48 + value) (87 + value)

-- a byte that is a digit
unfoldable pub is_digit : ℕ → Bool
is_digit b = ltb (digit_value b) 16

-- "an even number of the digits `0-9a-f`"
unfoldable pub is_digits : List ℕ → Bool
is_digits l = cond (eqb (length l % 2) 1) false (each_byte is_digit l)

-- the bytes that digits stand for, the first of two digits being the higher
unfoldable pub digits_bytes : List ℕ → List ℕ
digits_bytes [] = []
digits_bytes (high ∷ []) = []
digits_bytes (high ∷ low ∷ l) = (16 * digit_value high + digit_value low) ∷ digits_bytes l

-- the two digits of a byte
unfoldable pub byte_digits : ℕ → List ℕ
byte_digits b = digit_byte (b / 16) ∷ digit_byte (b % 16) ∷ []

-- the digits of bytes
unfoldable pub bytes_digits : List ℕ → List ℕ
bytes_digits [] = []
bytes_digits (b ∷ l) = digit_byte (b / 16) ∷ digit_byte (b % 16) ∷ bytes_digits l

-- `HEX` of an answer: "the first form, or `-`"
unfoldable pub answer_digits : List ℕ → List ℕ
answer_digits [] = bytes "-"
answer_digits (b ∷ l) = bytes_digits (b ∷ l)

-- a byte: what the laws of proofs/RoundTrip.antt say of a list of bytes. No contract cites it
unfoldable pub is_byte : ℕ → Bool
is_byte b = ltb b 256

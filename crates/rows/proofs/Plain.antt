-- Texts that can stand as a field: the empty one and those of digits and dots, so numbers and versions. `search plain` shows
-- that the fields of a line all are. Of an append see `each_append` of the crate text, at `field_byte`. Assumes nothing.
use Prim.Native.Nat.{ℕ}
use mathlib.Core.Path.{◌≡◌, refl}
use mathlib.Core.Bool.{true, false}
use mathlib.Core.List.{List, [], ◌∷◌}
use lib.Dec.{eqb}
use borrow.Author.Tests.{ne_eqb, not-true}
use Rattle.base.specs.Quoted.{comma, LF}
use Rattle.base.proofs.Tests.{and_both, or_left_false, or_right_false}
use Rattle.text.specs.declared.version.Version.{Version}
use Rattle.text.specs.Digits.{digits}
use Rattle.text.specs.Version.{version_text}
use Rattle.text.specs.Meaning.{each_byte, digit_or_dot}
use Rattle.text.proofs.Bytes.{each_nil, each-cons, each_first, each-rest, digit-or-dot-no-comma, digit-or-dot-no-LF, digits-bytes, version-bytes}
use Rattle.rows.specs.Field.{ends_field, field_byte, plain_field}
use Rattle.rows.specs.Line.{plain_fields}

-- the test of a byte as facts, both ways
module _ (b : ℕ) where
  pub field-byte : (b ≡ comma → ⊥) → (b ≡ LF → ⊥) → field_byte b ≡ true
  unfolding field_byte ends_field
  field-byte n m = rw (ne_eqb b comma n, ne_eqb b LF m)

  module _ (h : field_byte b ≡ true) where
    pub field-byte-stays : ends_field b ≡ false
    unfolding field_byte
    field-byte-stays = not-true (ends_field b) h

    pub field-byte-comma : eqb b comma ≡ false
    unfolding ends_field
    field-byte-comma = or_left_false (eqb b comma) (eqb b LF) field-byte-stays

    pub field-byte-LF : eqb b LF ≡ false
    unfolding ends_field
    field-byte-LF = or_right_false (eqb b comma) (eqb b LF) field-byte-stays

pub plain-bytes : (l : List ℕ) → each_byte digit_or_dot l ≡ true → plain_field l ≡ true
plain-bytes [] h = each_nil field_byte
plain-bytes (b ∷ l) h =
    let t : digit_or_dot b ≡ true = each_first digit_or_dot b l h in
    each-cons field_byte b l (field-byte b (digit-or-dot-no-comma b t) (digit-or-dot-no-LF b t)) (plain-bytes l (each-rest digit_or_dot b l h))

pub plain-digits : (n : ℕ) → plain_field (digits n) ≡ true
plain-digits n = plain-bytes (digits n) (digits-bytes n)

pub plain-version : (v : Version) → plain_field (version_text v) ≡ true
plain-version v = plain-bytes (version_text v) (version-bytes v)

pub plain-empty : plain_field [] ≡ true
plain-empty = each_nil field_byte

-- the fields of a line

pub plain-none : plain_fields [] ≡ true
unfolding plain_fields
plain-none = refl

pub plain_more : (w : List ℕ) (ws : List (List ℕ)) → plain_field w ≡ true → plain_fields ws ≡ true → plain_fields (w ∷ ws) ≡ true
unfolding plain_fields
plain_more w ws h hs = and_both (plain_field w) (plain_fields ws) h hs

pub ruleset plain = (plain-none, plain_more, plain-empty, plain-digits, plain-version)

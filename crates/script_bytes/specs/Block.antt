-- "`BYTES` is one of three forms: an even number of the digits `0-9a-f`; `-` for no bytes; or `=` and then text, every byte up to the next
-- space or LF as it stands but `;`, which stands for LF".
use Rattle.std.specs.Prelude.{ℕ, cond, List, [], map, length, drop, get_or, eqb, ltb, Option, Some, None}
use Rattle.base.specs.Quoted.{bytes, LF}
use Rattle.text.specs.Word.{same_bytes}
use Rattle.script_bytes.specs.declared.form.Form.{Form}
use Rattle.script_bytes.specs.declared.form.Form.TheVariants.{Digits, Nothing, Typed}
use Rattle.script_bytes.specs.Hex.{is_digits, digits_bytes}

-- "`=` and then text"
abbrev pub equals : ℕ
equals = 61

-- "`;`, which stands for LF"
abbrev pub semicolon : ℕ
semicolon = 59

-- the form of a word. A word of no bytes has none
unfoldable pub form_of : List ℕ → Option Form
form_of w =
    cond (ltb (length w) 1) None
    (cond (eqb (get_or w 0 0) equals) (Some Typed)
    (cond (same_bytes w (bytes "-")) (Some Nothing)
    (cond (is_digits w) (Some Digits) None)))

-- "every byte .. as it stands but `;`, which stands for LF"
unfoldable pub typed_byte : ℕ → ℕ
typed_byte b = cond (eqb b semicolon) LF b

-- the bytes that a word of a form stands for
abbrev pub form_bytes : Option Form → List ℕ → List ℕ
form_bytes (Some Digits) w = digits_bytes w
form_bytes (Some Nothing) w = []
form_bytes (Some Typed) w = map typed_byte (drop 1 w)
form_bytes None w = []

-- the bytes that a word stands for
unfoldable pub block_bytes : List ℕ → List ℕ
block_bytes w = form_bytes (form_of w) w

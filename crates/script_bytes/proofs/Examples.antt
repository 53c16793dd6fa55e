-- Words that are bytes, and words beside them that are not, computed. Assumes nothing.
use Prim.Native.String.{String}
use mathlib.Core.Path.{refl}
use mathlib.Core.List.{[], ◌∷◌}
use Rattle.std.specs.Prelude.{Some, None}
use Rattle.base.specs.Quoted.{bytes}
use Rattle.base.proofs.Tables.{◌gives◌, AllHold}
use Rattle.script_bytes.specs.declared.form.Form.TheVariants.{Digits, Nothing, Typed}
use Rattle.script_bytes.specs.Hex.{answer_digits}
use Rattle.script_bytes.specs.Block.{form_of, block_bytes}
use Rattle.script_bytes.specs.Open.{computing}

-- "upper-case hex digits, an empty word" have no form
forms-computed : AllHold (λ (w : String). form_of (bytes w))
    ("00" gives (Some Digits)
    ∷ "0aff" gives (Some Digits)
    ∷ "0" gives None
    ∷ "0a1" gives None
    ∷ "0A" gives None
    ∷ "0g" gives None
    ∷ "/0" gives None
    ∷ "0:" gives None
    ∷ "`0" gives None
    ∷ "-" gives (Some Nothing)
    ∷ "--" gives None
    ∷ "-0" gives None
    ∷ "=" gives (Some Typed)
    ∷ "==" gives (Some Typed)
    ∷ "=ab;" gives (Some Typed)
    ∷ "" gives None
    ∷ [])
unfolding computing
forms-computed = refl

-- "`;`, which stands for LF", "`=` alone is no bytes."
blocks-computed : AllHold (λ (w : String). block_bytes (bytes w))
    ("000910a0ff" gives (0 ∷ 9 ∷ 16 ∷ 160 ∷ 255 ∷ [])
    ∷ "-" gives []
    ∷ "=" gives []
    ∷ "=a;-=" gives (97 ∷ 10 ∷ 45 ∷ 61 ∷ [])
    ∷ [])
unfolding computing
blocks-computed = refl

-- "In answers `HEX` is the first form, or `-`."
answers-computed : AllHold answer_digits
    ((0 ∷ 9 ∷ 16 ∷ 160 ∷ 255 ∷ []) gives bytes "000910a0ff" ∷ [] gives bytes "-" ∷ (171 ∷ []) gives bytes "ab" ∷ [])
unfolding computing
answers-computed = refl

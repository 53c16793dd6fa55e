-- A line with a given number of fields.
use Rattle.std.specs.Prelude.{ℕ, ◌+◌, ◌-◌, Bool, true, cond, ◌&&◌, List, [], ◌∷◌, ◌++◌, eqb, Option, Some, None}
use Rattle.base.specs.Quoted.{comma, LF}
use Rattle.text.specs.declared.cursor.Cursor.{Cursor}
use Rattle.text.specs.Number.{cursor}
use Rattle.rows.specs.Field.{plain_field}

-- a line that goes on at the position p with the bytes l and has the given number of commas still to come; its LF ends it.
-- A last line without LF is ill-formed
unfoldable pub line_from : ℕ → ℕ → List ℕ → Option Cursor
line_from commas p [] = None
line_from commas p (b ∷ l) =
    let goes_on = line_from (cond (eqb b comma) (commas - 1) commas) (p + 1) l in
    cond (eqb b LF)
    (cond (eqb commas 0) (Some (cursor (p + 1))) None)
    (cond (eqb b comma && eqb commas 0) None goes_on)

-- the text of a line: its fields joined by commas, and LF
unfoldable pub line_text : List (List ℕ) → List ℕ
line_text [] = LF ∷ []
line_text (w ∷ []) = w ++ LF ∷ []
line_text (w ∷ (v ∷ ws)) = w ++ comma ∷ line_text (v ∷ ws)

-- each field of a line can stand as one
unfoldable pub plain_fields : List (List ℕ) → Bool
plain_fields [] = true
plain_fields (w ∷ ws) = plain_field w && plain_fields ws

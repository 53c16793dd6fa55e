-- A list of calls in numbers: rows of six words one behind the other. One malformed row, or words left over, make the whole list
-- malformed.
use Rattle.std.specs.Prelude.{ℕ, Bool, true, false, List, [], ◌∷◌}
use Rattle.std.proofs.Math.Option.{Option, none, some}
use Rattle.four_state.specs.MixedLists.{MixedCall}
use Rattle.call_rows.specs.Row.{row, decoded_row}

-- a call before others, if there are both
abbrev pub before : Option MixedCall → Option (List MixedCall) → Option (List MixedCall)
before none calls = none
before (some call) none = none
before (some call) (some calls) = some (call ∷ calls)

-- the calls of a list of words, with their blocks in a byte string
unfoldable pub decoded : List ℕ → List ℕ → Option (List MixedCall)
decoded [] bytes = some []
decoded (a ∷ []) bytes = none
decoded (a ∷ b ∷ []) bytes = none
decoded (a ∷ b ∷ c ∷ []) bytes = none
decoded (a ∷ b ∷ c ∷ d ∷ []) bytes = none
decoded (a ∷ b ∷ c ∷ d ∷ e ∷ []) bytes = none
decoded (a ∷ b ∷ c ∷ d ∷ e ∷ f ∷ words) bytes = before (decoded_row (row a b c d e f) bytes) (decoded words bytes)

-- whether there is a list of calls
abbrev pub is_given : Option (List MixedCall) → Bool
is_given none = false
is_given (some calls) = true

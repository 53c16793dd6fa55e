-- Rows whose calls are of the twelve: of a list with a call of the old four `measured_calls` says nothing.
use Rattle.std.specs.Prelude.{ℕ, ◌≡◌, Bool, true, false, List, [], ◌∷◌}
use Rattle.std.proofs.Math.Option.{Option, some}
use Rattle.model.specs.State.{Store}
use Rattle.model.specs.Calls.{Call}
use Rattle.state.specs.declared.state.State.{State}
use Rattle.state.specs.declared.answer.Answer.{Answer}
use Rattle.call_rows.specs.declared.answer_words.AnswerWords.{AnswerWords}
use Rattle.state.specs.declared.answer.Answered.{Answered}
use Rattle.state.specs.Outcome.{reply_of, answered}
use Rattle.four_state.specs.MixedLists.{MixedCall, of_twelve, of_four, by_twelve}
use Rattle.call_rows.specs.declared.row.Row.{Row}
use Rattle.call_rows.specs.Row.{decoded_row}
use Rattle.call_rows.specs.Answers.{answer_words}
use Rattle.call_list.specs.WholeList.{CallMade, RowsMade}

-- whether each call is one of the twelve
unfoldable pub all_twelve : List MixedCall → Bool
all_twelve [] = true
all_twelve (of_twelve call ∷ calls) = all_twelve calls
all_twelve (of_four call ∷ calls) = false

-- the rows, if they are well-formed, are calls of the twelve
abbrev pub OfTheTwelve : Option (List MixedCall) → Type 0
OfTheTwelve given = (calls : List MixedCall) → given ≡ some calls → all_twelve calls ≡ true

-- what a call of the twelve gave, its answer in words
abbrev pub in_words : Answered Answer → Answered AnswerWords
in_words made = answered (answer_words (by_twelve (reply_of made.answer))) made.state

-- the call of a row was made; of a malformed row and of an old call nothing is said
abbrev pub TwelveMade : State → Store → Row → List ℕ → Answered Answer → Store → Type 0
TwelveMade s store row bytes made store' =
    (call : Call) → decoded_row row bytes ≡ some (of_twelve call) → CallMade s store (of_twelve call) (in_words made) store'

-- the calls of rows of the twelve were made
abbrev pub TwelvesMade : State → Store → List ℕ → Option (List MixedCall) → State → Store → List ℕ → Type 0
TwelvesMade s₀ store₀ answers₀ given s store answers = OfTheTwelve given → RowsMade s₀ store₀ answers₀ given s store answers

-- The answers of a list of calls in a lent slice: two words for each call, in the order of the calls.
use Rattle.std.specs.Prelude.{ℕ, List, [], ◌∷◌, ◌++◌, length, drop}
use Rattle.four_state.specs.MixedLists.{MixedMade}
use Rattle.call_rows.specs.Answers.{answer_words}

unfoldable pub words_of : List MixedMade → List ℕ
words_of [] = []
words_of (m ∷ made) = (answer_words m.answer).kind ∷ (answer_words m.answer).value ∷ words_of made

-- the slice then; words behind the answers keep their values
abbrev pub answers_after : List MixedMade → List ℕ → List ℕ
answers_after made answers = words_of made ++ drop (length (words_of made)) answers

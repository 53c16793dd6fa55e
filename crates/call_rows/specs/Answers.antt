-- An answer in numbers: a word for which it is, and a word for the id, the refusal number or the old answer.
use Rattle.std.specs.Prelude.{ℕ, cond, [], ◌∷◌, eqb, get_or}
use Rattle.std.proofs.Math.Option.{Option, none, some}
use Rattle.model.specs.Calls.{Answer, given_id, done, working, processed, cancelled, inconsistent, pre_activation_failed, missing_dependencies, verification_failed, not_able_to_rollback, not_able_to_revert, cleaning_failed, refused, accepted}
use Rattle.four_state.specs.MixedLists.{MixedReply, by_twelve, by_four}
use Rattle.call_rows.specs.declared.answer_words.AnswerWords.{AnswerWords}

abbrev pub words : ℕ → ℕ → AnswerWords
words kind value = record { kind = kind; value = value }

-- the id, the names of document 01 and a refusal, which "is the number alone"; and the number that an old call answers
abbrev pub answer_words : MixedReply → AnswerWords
answer_words (by_twelve (accepted (given_id id))) = words 0 id
answer_words (by_twelve (accepted done)) = words 1 0
answer_words (by_twelve (accepted working)) = words 2 0
answer_words (by_twelve (accepted processed)) = words 3 0
answer_words (by_twelve (accepted cancelled)) = words 4 0
answer_words (by_twelve (accepted inconsistent)) = words 5 0
answer_words (by_twelve (accepted pre_activation_failed)) = words 6 0
answer_words (by_twelve (accepted missing_dependencies)) = words 7 0
answer_words (by_twelve (accepted verification_failed)) = words 8 0
answer_words (by_twelve (accepted not_able_to_rollback)) = words 9 0
answer_words (by_twelve (accepted not_able_to_revert)) = words 10 0
answer_words (by_twelve (accepted cleaning_failed)) = words 11 0
answer_words (by_twelve (refused number)) = words 12 number
answer_words (by_four number) = words 13 number

-- the answer with a name that two words are: the second is 0
abbrev pub named : AnswerWords → Answer → Option MixedReply
named w answer = cond (eqb w.value 0) (some (by_twelve (accepted answer))) none

-- the reply that two words are
unfoldable pub reply_in : AnswerWords → Option MixedReply
reply_in w =
    get_or
    (some (by_twelve (accepted (given_id w.value)))
    ∷ named w done
    ∷ named w working
    ∷ named w processed
    ∷ named w cancelled
    ∷ named w inconsistent
    ∷ named w pre_activation_failed
    ∷ named w missing_dependencies
    ∷ named w verification_failed
    ∷ named w not_able_to_rollback
    ∷ named w not_able_to_revert
    ∷ named w cleaning_failed
    ∷ some (by_twelve (refused w.value))
    ∷ some (by_four w.value)
    ∷ [])
    w.kind
    none

-- The two words of an answer tell it: they read back as the reply, and no other words do. Assumes nothing.
use Prim.Native.Nat.{ℕ, zero, suc}
use mathlib.Core.Path.{◌≡◌, refl, ap, ◌∙◌}
use mathlib.Core.Option.{Option, none, some, some-injective}
use lib.Dec.{eqb}
use borrow.Author.Tests.{eqb-true}
use Rattle.base.proofs.Tests.{none-some, cond_cases}
use Rattle.model.specs.Calls.{Answer as Answered, given_id, done, working, processed, cancelled, inconsistent, pre_activation_failed, missing_dependencies, verification_failed, not_able_to_rollback, not_able_to_revert, cleaning_failed, refused, accepted}
use Rattle.state.specs.declared.answer.Answer.{Answer}
use Rattle.state.specs.Outcome.{reply_of}
use Rattle.four_state.specs.MixedLists.{MixedReply, by_twelve, by_four}
use Rattle.call_rows.specs.declared.answer_words.AnswerWords.{AnswerWords}
use Rattle.call_rows.specs.Answers.{words, answer_words, named, reply_in}

pub words-tell : (reply : MixedReply) → reply_in (answer_words reply) ≡ some reply
unfolding reply_in
words-tell (by_twelve (accepted (given_id id))) = refl
words-tell (by_twelve (accepted done)) = refl
words-tell (by_twelve (accepted working)) = refl
words-tell (by_twelve (accepted processed)) = refl
words-tell (by_twelve (accepted cancelled)) = refl
words-tell (by_twelve (accepted inconsistent)) = refl
words-tell (by_twelve (accepted pre_activation_failed)) = refl
words-tell (by_twelve (accepted missing_dependencies)) = refl
words-tell (by_twelve (accepted verification_failed)) = refl
words-tell (by_twelve (accepted not_able_to_rollback)) = refl
words-tell (by_twelve (accepted not_able_to_revert)) = refl
words-tell (by_twelve (accepted cleaning_failed)) = refl
words-tell (by_twelve (refused number)) = refl
words-tell (by_four number) = refl

-- words that are read as the answer with a name are its words
named-words : (kind value : ℕ) (answer : Answered) (reply : MixedReply) → words kind 0 ≡ answer_words (by_twelve (accepted answer))
    → named (words kind value) answer ≡ some reply → words kind value ≡ answer_words reply
named-words kind value answer reply own =
    cond_cases (λ (o : Option MixedReply). o ≡ some reply → words kind value ≡ answer_words reply) (eqb value 0) (some (by_twelve (accepted answer))) none
    (λ zero e. ap (words kind) (eqb-true value 0 zero) ∙ own ∙ ap answer_words (some-injective _ _ e))
    λ other e. none-some e

-- words that are read as a reply are its words
pub words-only : (kind value : ℕ) (reply : MixedReply) → reply_in (words kind value) ≡ some reply → words kind value ≡ answer_words reply
unfolding reply_in
words-only zero value reply e = ap answer_words (some-injective _ _ e)
words-only (suc zero) value reply e = named-words 1 value done reply refl e
words-only (suc (suc zero)) value reply e = named-words 2 value working reply refl e
words-only (suc (suc (suc zero))) value reply e = named-words 3 value processed reply refl e
words-only (suc (suc (suc (suc zero)))) value reply e = named-words 4 value cancelled reply refl e
words-only (suc (suc (suc (suc (suc zero))))) value reply e = named-words 5 value inconsistent reply refl e
words-only (suc (suc (suc (suc (suc (suc zero)))))) value reply e = named-words 6 value pre_activation_failed reply refl e
words-only (suc (suc (suc (suc (suc (suc (suc zero))))))) value reply e = named-words 7 value missing_dependencies reply refl e
words-only (suc (suc (suc (suc (suc (suc (suc (suc zero)))))))) value reply e = named-words 8 value verification_failed reply refl e
words-only (suc (suc (suc (suc (suc (suc (suc (suc (suc zero))))))))) value reply e = named-words 9 value not_able_to_rollback reply refl e
words-only (suc (suc (suc (suc (suc (suc (suc (suc (suc (suc zero)))))))))) value reply e = named-words 10 value not_able_to_revert reply refl e
words-only (suc (suc (suc (suc (suc (suc (suc (suc (suc (suc (suc zero))))))))))) value reply e = named-words 11 value cleaning_failed reply refl e
words-only (suc (suc (suc (suc (suc (suc (suc (suc (suc (suc (suc (suc zero)))))))))))) value reply e = ap answer_words (some-injective _ _ e)
words-only (suc (suc (suc (suc (suc (suc (suc (suc (suc (suc (suc (suc (suc zero))))))))))))) value reply e = ap answer_words (some-injective _ _ e)
words-only (suc (suc (suc (suc (suc (suc (suc (suc (suc (suc (suc (suc (suc (suc kind)))))))))))))) value reply e = none-some e

-- the words of an answer whose case is known
pub words_of : (r : AnswerWords) (answer case : Answer) → answer ≡ case → r ≡ answer_words (by_twelve (reply_of case)) → r ≡ answer_words (by_twelve (reply_of answer))
words_of r answer case is same = rw is same

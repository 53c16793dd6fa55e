-- The call of a row, by what is told of the row's request. Assumes nothing.
use Prim.Native.Nat.{ℕ}
use mathlib.Core.Path.{◌≡◌, refl, sym, ap, subst, ◌∙◌}
use mathlib.Core.List.{List}
use mathlib.Core.Option.{some-injective}
use lib.ListN.{length}
use Rattle.std.specs.Prelude as code
use Rattle.base.proofs.Tests.{none-some}
use Rattle.model.specs.State as model
use Rattle.model.specs.State.{Store}
use Rattle.model.specs.Calls.{Call}
use Rattle.model.specs.Step as steps
use Rattle.model.specs.Layers.{EventOutcome, event_outcome, view_outcome_by}
use Rattle.state.specs.declared.state.State.{State}
use Rattle.state.specs.declared.answer.Answer.{Answer}
use Rattle.state.specs.declared.answer.Answered.{Answered}
use Rattle.state.specs.View.{view_state}
use Rattle.state.specs.Outcome.{Outcome, outcome, reply_of, view_outcome, answered}
use Rattle.request.specs.declared.Request.{Request}
use Rattle.request.specs.Call.{call_of}
use Rattle.manager.specs.Accepts.{exact_step}
use Rattle.four_state.specs.declared.call.OldCall.{OldCall}
use Rattle.four_state.specs.Exact.{old_outcome, exact_old_step}
use Rattle.four_state.specs.MixedLists.{MixedCall, of_twelve, of_four, by_twelve, by_four, mixed_step}
use Rattle.four_state.proofs.OldWays.{view-old}
use Rattle.call_rows.specs.declared.row.Row.{Row}
use Rattle.call_rows.specs.declared.row.MixedRequest.{MixedRequest}
use Rattle.call_rows.specs.declared.row.MixedRequest.TheVariants.{Twelve, Old}
use Rattle.call_rows.specs.declared.answer_words.AnswerWords.{AnswerWords}
use Rattle.call_rows.specs.Answers.{answer_words}
use Rattle.call_rows.specs.Row.{block_of, mixed_of, request_in, request_within}
use Rattle.call_rows.proofs.RowListLaws.{row-decoded, row-malformed}
use Rattle.call_list.specs.Run.{exact_mixed_step}
use Rattle.call_list.specs.WholeList.{CallMade, RowMade}

-- ---- a call of either kind that was made

module _ (s : State) (store store' : Store) where
  pub made-twelve : (call : Call) (made : Answered Answer) (words : AnswerWords) (r : Answered AnswerWords)
      → view_outcome (outcome made store') ≡ steps.step (view_state s) store call → outcome made store' ≡ exact_step s store call
      → words ≡ answer_words (by_twelve (reply_of made.answer)) → r ≡ answered words made.state → CallMade s store (of_twelve call) r store'
  unfolding mixed_step exact_mixed_step
  made-twelve call made words r meaning exact are is =
      rw (is, are)
      (record {
        answer = by_twelve (reply_of made.answer);
        words = refl;
        meaning = ap (λ (o : steps.Outcome). event_outcome (by_twelve o.reply) o.state o.store) meaning;
        exact = ap (λ (o : Outcome). event_outcome (by_twelve (reply_of o.answered.answer)) o.answered.state o.store) exact;
      })

  pub made-old : (call : OldCall) (made : Answered ℕ) (words : AnswerWords) (r : Answered AnswerWords)
      → old_outcome made store' ≡ exact_old_step s store call
      → words ≡ answer_words (by_four made.answer) → r ≡ answered words made.state → CallMade s store (of_four call) r store'
  unfolding mixed_step exact_mixed_step
  made-old call made words r exact are is =
      rw (is, are)
      (record {
        answer = by_four made.answer;
        words = refl;
        meaning = ap (λ (o : EventOutcome model.State ℕ). event_outcome (by_four o.answer) o.state o.store)
            (ap (view_outcome_by view_state) exact ∙ view-old s store call);
        exact = ap (λ (o : EventOutcome State ℕ). event_outcome (by_four o.answer) o.state o.store) exact;
      })

-- ---- the call of a row

module _ (s : State) (store : Store) (r : Row) (bytes : List ℕ) (answered : Answered AnswerWords) (store' : Store) where
  module _ (request : code.Option MixedRequest) (told : request_in request ≡ request_within r (length bytes)) where
    -- a malformed row is no call
    pub no_row : request ≡ code.None → RowMade s store r bytes answered store'
    no_row is call e = none-some (sym (row-malformed r bytes (sym told ∙ ap request_in is)) ∙ e)

    -- the call that is made is the row's
    the_row : (mixed : MixedRequest) → request ≡ code.Some mixed → CallMade s store (mixed_of mixed (block_of r bytes)) answered store' → RowMade s store r bytes answered store'
    the_row mixed is made call e =
        let same = some-injective _ _ (sym (row-decoded r bytes mixed (sym told ∙ ap request_in is)) ∙ e) in
        subst (λ (x : MixedCall). CallMade s store x answered store') same made

    pub twelve-row : (mixed : MixedRequest) (twelve : Request) (block : List ℕ) → request ≡ code.Some mixed → mixed ≡ Twelve twelve
        → block ≡ block_of r bytes → CallMade s store (of_twelve (call_of twelve block)) answered store' → RowMade s store r bytes answered store'
    twelve-row mixed twelve block is kind part made = the_row mixed is (rw (kind, sym part) made)

    pub old_row : (mixed : MixedRequest) (old : OldCall) → request ≡ code.Some mixed → mixed ≡ Old old → CallMade s store (of_four old) answered store'
        → RowMade s store r bytes answered store'
    old_row mixed old is kind made = the_row mixed is (rw kind made)

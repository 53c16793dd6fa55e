-- The call of a row, by what is told of the row's request: it is made if it is one of the twelve. Assumes nothing.
use Prim.Native.Nat.{ℕ}
use mathlib.Core.Path.{◌≡◌, refl, sym, ap, ◌∙◌}
use mathlib.Core.Bool.{Bool, true, false, true≢false}
use mathlib.Core.List.{List}
use mathlib.Core.Option.{some}
use lib.ListN.{length}
use Rattle.std.specs.Prelude as code
use Rattle.model.specs.State.{Store}
use Rattle.model.specs.Step as steps
use Rattle.state.specs.declared.state.State.{State}
use Rattle.state.specs.declared.answer.Answer.{Answer}
use Rattle.state.specs.declared.answer.Answered.{Answered}
use Rattle.state.specs.View.{view_state}
use Rattle.state.specs.Outcome.{outcome, view_outcome}
use Rattle.request.specs.declared.Request.{Request}
use Rattle.request.specs.Call.{call_of}
use Rattle.manager.specs.Accepts.{exact_step}
use Rattle.four_state.specs.declared.call.OldCall.{OldCall}
use Rattle.four_state.specs.MixedLists.{of_twelve}
use Rattle.call_rows.specs.declared.row.Row.{Row}
use Rattle.call_rows.specs.declared.row.MixedRequest.{MixedRequest}
use Rattle.call_rows.specs.declared.row.MixedRequest.TheVariants.{Twelve, Old}
use Rattle.call_rows.specs.Row.{block_of, request_in, request_within}
use Rattle.call_rows.proofs.RowListLaws.{row-decoded}
use Rattle.call_list.proofs.RowCall.{made-twelve, no_row, twelve-row}
use Rattle.measured.specs.Twelve.{in_words, TwelveMade}

module _ (s : State) (store : Store) (r : Row) (bytes : List ℕ) (made : Answered Answer) (store' : Store)
    (request : code.Option MixedRequest) (told : request_in request ≡ request_within r (length bytes)) where
  pub no_call : request ≡ code.None → TwelveMade s store r bytes made store'
  no_call is call = no_row s store r bytes (in_words made) store' request told is (of_twelve call)

  pub no-twelve : (mixed : MixedRequest) (old : OldCall) → request ≡ code.Some mixed → mixed ≡ Old old → TwelveMade s store r bytes made store'
  no-twelve mixed old is kind call e =
      let four = row-decoded r bytes (Old old) (sym told ∙ ap request_in is ∙ ap some kind) in
      let z : ◌≡◌ {A = Bool} true false = cc in
      absurd (true≢false z)

  pub twelve-call : (mixed : MixedRequest) (twelve : Request) (block : List ℕ) → request ≡ code.Some mixed → mixed ≡ Twelve twelve
      → block ≡ block_of r bytes → view_outcome (outcome made store') ≡ steps.step (view_state s) store (call_of twelve block)
      → outcome made store' ≡ exact_step s store (call_of twelve block) → TwelveMade s store r bytes made store'
  twelve-call mixed twelve block is kind part meaning exact call =
      twelve-row s store r bytes (in_words made) store' request told mixed twelve block is kind part
      (made-twelve s store store' (call_of twelve block) made (in_words made).answer (in_words made) meaning exact refl refl)
      (of_twelve call)

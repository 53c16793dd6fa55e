-- The ways out of `measured_calls` and `measured_load`: those of `load_and_run` of `call_list`, by the number and from the state that nothing was loaded into.
-- Assumes nothing.
use Prim.Native.Nat.{ℕ, ◌/◌, ◌≤◌, ◌<◌}
use mathlib.Core.Path.{◌≡◌, refl, ap, ◌∙◌}
use mathlib.Core.Bool.{true, false}
use mathlib.Core.List.{List, []}
use native.Mathlib.Omega.{arith}
use lib.ListN.{length}
use Rattle.model.specs.State.{Store}
use Rattle.model.specs.Load as model
use Rattle.state.specs.declared.state.State.{State}
use Rattle.state.specs.declared.answer.Answer.TheVariants.{Done}
use Rattle.state.specs.declared.answer.Answer.{Answer}
use Rattle.state.specs.declared.answer.Answered.{Answered}
use Rattle.state.specs.View.{view_state}
use Rattle.state.specs.Outcome.{outcome, view_outcome, answered}
use Rattle.load.specs.Exact.{load}
use Rattle.load.proofs.Told.{IsOther}
use Rattle.call_rows.specs.Rows.{decoded, is_given}
use Rattle.call_list.specs.declared.ListReply.{ListReply}
use Rattle.call_list.specs.declared.ListReply.TheVariants.{Made, BadLoad, Malformed, ShortAnswers}
use Rattle.call_list.specs.WholeList.{list_outcome, RowsMade}
use Rattle.call_list.specs.Loaded.{load_and_run_outcome}
use Rattle.call_list.proofs.ListLaws.{made-begins, made-ends}
use Rattle.call_list.proofs.LoadedWays as ways
use Rattle.c_interface.specs.Results.{result_number}
use Rattle.c_interface.specs.LoadAndRun.{nothing_loaded, numbered_outcome, numbered, load_and_run_numbered}

-- no row, no call
pub no_rows : is_given (decoded [] []) ≡ true
unfolding decoded
no_rows = refl

pub none_made : (s : State) (store : Store) → RowsMade s store [] (decoded [] []) s store []
none_made s store = made-ends [] [] [] refl no_rows s store [] s store [] 0 (made-begins [] [] [] refl no_rows s store []) (omega arith)

module _ (list : List ℕ) (first : ℕ) (store : Store) (words rows bytes : List ℕ) (number : ℕ) where
  -- what the contract says of the store and the answers that are given back
  abbrev Numbered : Store → List ℕ → Type 0
  Numbered store' words' = numbered_outcome number store' words' ≡ load_and_run_numbered list first store words (decoded rows bytes)

  -- an outcome that `load_and_run` would give, by its number
  by-outcome : (s s' : State) (reply : ListReply) (store' : Store) (words' : List ℕ) → s ≡ nothing_loaded → number ≡ result_number reply
      → list_outcome (answered reply s') store' words' ≡ load_and_run_outcome s list first store words (decoded rows bytes)
      → Numbered store' words'
  by-outcome s s' reply store' words' nothing is e =
      ap (λ (n : ℕ). numbered_outcome n store' words') is
      ∙ ap numbered e
      ∙ ap (λ (x : State). numbered (load_and_run_outcome x list first store words (decoded rows bytes))) nothing

  pub ends-malformed : is_given (decoded rows bytes) ≡ false → number ≡ result_number Malformed → Numbered store words
  ends-malformed g is =
      let r = answered Malformed nothing_loaded in
      by-outcome nothing_loaded nothing_loaded Malformed store words refl is (ways.ends-malformed nothing_loaded list first store words rows bytes r g refl).0

  pub ends-short : is_given (decoded rows bytes) ≡ true → length words < length rows / 3 → number ≡ result_number ShortAnswers
      → Numbered store words
  ends-short g h is =
      let r = answered ShortAnswers nothing_loaded in
      by-outcome nothing_loaded nothing_loaded ShortAnswers store words refl is (ways.ends-short nothing_loaded list first store words rows bytes r g h refl).0

  module _ (s : State) (nothing : s ≡ nothing_loaded) (loaded : Answered Answer) (store' : Store) (exact : outcome loaded store' ≡ load s list first store)
      (g : is_given (decoded rows bytes) ≡ true) (h : length rows / 3 ≤ length words) where
    pub ends-bad : IsOther loaded.answer → number ≡ result_number BadLoad → Numbered store' words
    ends-bad other is =
        let r = answered BadLoad loaded.state in
        by-outcome s loaded.state BadLoad store' words nothing is (ways.ends-bad s list first store words rows bytes r loaded store' exact g h other refl).0

    pub ends-made : view_outcome (outcome loaded store') ≡ model.load (view_state s) list first store → loaded.answer ≡ Done
        → (s' : State) (store'' : Store) (words' : List ℕ) → RowsMade loaded.state store' words (decoded rows bytes) s' store'' words'
        → number ≡ result_number Made → Numbered store'' words'
    ends-made meaning d s' store'' words' m is =
        let r = answered Made s' in
        by-outcome s s' Made store'' words' nothing is (ways.ends-made s list first store words rows bytes r loaded store' exact g h meaning d s' store'' words' refl m).0

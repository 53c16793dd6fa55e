-- What Load's answer tells its caller: Done or another, that it was accepted or refused. Assumes nothing.
use Prim.Native.Nat.{ℕ}
use mathlib.Core.Path.{◌≡◌, sym, ap, ◌∙◌}
use mathlib.Core.Bool.{Bool, true, false, true≢false}
use mathlib.Core.List.{List}
use Rattle.base.specs.Refusals.{first_refusal}
use Rattle.base.proofs.Tests.{bool_cases}
use Rattle.model.specs.State.{Store}
use Rattle.model.specs.Load.{is_bad_load}
use Rattle.state.specs.declared.state.State.{State}
use Rattle.state.specs.declared.answer.Answer.{Answer}
use Rattle.state.specs.declared.answer.Answer.TheVariants.{Done}
use Rattle.state.specs.Outcome.{Outcome, outcome, refused_by, settled}
use Rattle.load.specs.Exact.{load}

-- an answer other than Done, as the code's `else` knows it
abbrev pub IsOther : Answer → Type 0
IsOther a = a ≡ Done → ⊥

module _ (s : State) (list : List ℕ) (first : ℕ) (store : Store) where
  pub bad-load : is_bad_load list first store ≡ true → load s list first store ≡ outcome (refused_by s 20) store
  unfolding load settled first_refusal
  bad-load e = rw e

  good-load : is_bad_load list first store ≡ false → (load s list first store).answered.answer ≡ Done
  unfolding load settled first_refusal
  good-load e = rw e

  module _ (o : Outcome) (exact : o ≡ load s list first store) where
    abbrev answer_in : Outcome → Answer
    answer_in z = z.answered.answer

    pub told-good : o.answered.answer ≡ Done → is_bad_load list first store ≡ false
    told-good done =
        bool_cases (is_bad_load list first store)
        (λ e. let refused = sym done ∙ ap answer_in (exact ∙ bad-load e) in
        let z : ◌≡◌ {A = Bool} true false = cc in absurd (true≢false z))
        λ e. e

    pub told-bad : IsOther o.answered.answer → is_bad_load list first store ≡ true
    told-bad other =
        bool_cases (is_bad_load list first store) (λ e. e)
        λ e. absurd (other (ap answer_in exact ∙ good-load e))

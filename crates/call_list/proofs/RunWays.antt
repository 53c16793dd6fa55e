-- The ways out of `run`: refused as malformed, refused for want of room, or every call made. Assumes nothing.
use Prim.Native.Nat.{ℕ, ◌*◌, ◌/◌, ◌≤◌, ◌<◌}
use mathlib.Core.Path.{◌≡◌, refl, sym, ap, subst, ◌∙◌}
use mathlib.Core.Bool.{Bool, true, false, true≢false}
use mathlib.Core.List.{List}
use mathlib.Core.Option.{Option, none, some, some-injective}
use native.Mathlib.Omega.{arith}
use lib.ListN.{length}
use borrow.Author.Tests.{le-leb, lt-leb}
use Rattle.base.proofs.Tests.{clash}
use Rattle.model.specs.State.{Store}
use Rattle.model.specs.State as model
use Rattle.model.specs.Journal.{Journal, journal}
use Rattle.model.specs.Invariant.{Invariant}
use Rattle.model.specs.Layers.{EventRun, run_events, counted_in}
use Rattle.state.specs.declared.state.State.{State}
use Rattle.state.specs.View.{view_state}
use Rattle.state.specs.Outcome.{answered}
use Rattle.four_state.specs.MixedLists.{MixedCall, MixedReply, mixed_step, counts_as}
use Rattle.four_state.proofs.MixedLists.{mixed-keeps, mixed-demand-from}
use Rattle.call_rows.specs.Rows.{decoded, is_given}
use Rattle.call_rows.proofs.RowListLaws.{six-for-each}
use Rattle.call_list.specs.declared.ListReply.TheVariants.{Made, Malformed, ShortAnswers}
use Rattle.call_list.specs.declared.ListReply.{ListReply}
use Rattle.state.specs.declared.answer.Answered.{Answered}
use Rattle.call_list.specs.Answers.{words_of}
use Rattle.call_list.specs.WholeList.{list_outcome, outcome_of, run_outcome, model_outcome_of, view_list_outcome, model_run_outcome, GoesOn, GoesOnIfMade, MadeFrom, RowsMade}

-- ---- the three clauses

module _ (s : State) (store : Store) (answers : List ℕ) where
  abbrev Clauses : Option (List MixedCall) → Answered ListReply → Store → List ℕ → Type 0
  Clauses given r store' answers' =
      (view_list_outcome (list_outcome r store' answers') ≡ model_run_outcome (view_state s) store answers given)
      × ((list_outcome r store' answers' ≡ run_outcome s store answers given) × GoesOnIfMade s store given r store')

  malformed : (given : Option (List MixedCall)) → is_given given ≡ false → Clauses given (answered Malformed s) store answers
  unfolding run_outcome model_run_outcome run_events words_of
  malformed none e = (refl, (refl, λ calls is made. let z : ◌≡◌ {A = Bool} true false = cc in absurd (true≢false z)))
  malformed (some calls) e = clash refl e

  short : (calls : List MixedCall) → length answers < 2 * length calls → Clauses (some calls) (answered ShortAnswers s) store answers
  unfolding run_outcome model_run_outcome run_events words_of
  short calls h =
      let no = lt-leb (2 * length calls) (length answers) h in
      (rw no, (rw no, λ others is made. let z : ◌≡◌ {A = Bool} true false = cc in absurd (true≢false z)))

  module _ (calls : List MixedCall) (s' : State) (store' : Store) (answers' : List ℕ) (m : MadeFrom s store answers calls s' store' answers') where
    -- the calls behind those of a journal
    goes_on : (j : Journal) → Invariant j (view_state s) store → GoesOn j s store calls s' store'
    goes_on j i =
        record {
          demand3 = mixed-demand-from j (view_state s) store i calls;
          invariant =
              subst (λ (r : EventRun model.State MixedCall MixedReply). Invariant (journal j (counted_in mixed_step counts_as (view_state s) store calls)) r.state r.store) (sym m.meaning)
              (mixed-keeps j (view_state s) store i calls);
        }

    all_made : 2 * length calls ≤ length answers → Clauses (some calls) (answered Made s') store' answers'
    unfolding run_outcome model_run_outcome
    all_made h =
        let yes = le-leb (2 * length calls) (length answers) h in (
          rw yes
              (ap (λ (words : List ℕ). view_list_outcome (list_outcome (answered Made s') store' words)) m.written
              ∙ ap (λ (r : EventRun model.State MixedCall MixedReply). model_outcome_of Made r answers) m.meaning),
          (
            rw yes
                (ap (list_outcome (answered Made s') store') m.written
                ∙ ap (λ (r : EventRun State MixedCall MixedReply). outcome_of Made r answers) (sym m.exact)),
            λ others is made j i. subst (λ (l : List MixedCall). GoesOn j s store l s' store') (some-injective _ _ is) (goes_on j i),
          ),
        )

-- ---- what `run` learns on its way

-- the calls of a list that is given
pub given-cases : (P : Option (List MixedCall) → Type 0) (o : Option (List MixedCall)) → is_given o ≡ true → ((calls : List MixedCall) → o ≡ some calls → P (some calls)) → P o
given-cases P none g f = clash g refl
given-cases P (some calls) g f = f calls refl

module _ (s : State) (store : Store) (answers words bytes : List ℕ) (r : Answered ListReply) where
  pub ends-malformed : is_given (decoded words bytes) ≡ false → r ≡ answered Malformed s
      → Clauses s store answers (decoded words bytes) r store answers
  ends-malformed g is = rw is (malformed s store answers (decoded words bytes) g)

  pub ends-short : is_given (decoded words bytes) ≡ true → length answers < length words / 3 → r ≡ answered ShortAnswers s
      → Clauses s store answers (decoded words bytes) r store answers
  ends-short g h is =
      rw is
      (given-cases (λ (o : Option (List MixedCall)). Clauses s store answers o (answered ShortAnswers s) store answers) (decoded words bytes) g
      λ calls e. short s store answers calls (omega (arith, six-for-each words bytes calls e)))

  pub ends-made : is_given (decoded words bytes) ≡ true → length words / 3 ≤ length answers → (s' : State) (store' : Store) (answers' : List ℕ)
      → r ≡ answered Made s'
      → RowsMade s store answers (decoded words bytes) s' store' answers'
      → Clauses s store answers (decoded words bytes) r store' answers'
  ends-made g h s' store' answers' is m =
      rw is
      (given-cases (λ (o : Option (List MixedCall)). Clauses s store answers o (answered Made s') store' answers') (decoded words bytes) g
      λ calls e. all_made s store answers calls s' store' answers' (m calls e) (omega (arith, six-for-each words bytes calls e)))

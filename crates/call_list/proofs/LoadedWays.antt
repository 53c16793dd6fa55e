-- The ways out of `load_and_run`: refused as malformed, refused for want of room, a refused Load, or every call made from what Load gave;
-- then demand 3 is met. Assumes nothing.
use Prim.Native.Nat.{ℕ, ◌*◌, ◌/◌, ◌≤◌, ◌<◌}
use mathlib.Core.Path.{◌≡◌, refl, sym, ap, subst, ◌∙◌}
use mathlib.Core.Bool.{Bool, true, false, true≢false}
use mathlib.Core.List.{List, [], append-nil}
use mathlib.Core.Option.{Option, none, some, some-injective}
use native.Mathlib.Omega.{arith}
use lib.ListN.{length}
use borrow.Author.Tests.{le-leb, lt-leb}
use Rattle.base.proofs.Tests.{clash, none-some}
use Rattle.cluster_list.specs.Read.{read_list}
use Rattle.model.specs.State as states
use Rattle.model.specs.State.{Store}
use Rattle.model.specs.Calls.{done, accepted}
use Rattle.model.specs.Step as step
use Rattle.model.specs.Load as model
use Rattle.model.specs.Load.{table_or_empty, is_bad_load}
use Rattle.model.specs.Journal.{opened, journal}
use Rattle.model.specs.Invariant.{Invariant}
use Rattle.model.specs.Demand3.{AgreesWith}
use Rattle.model.specs.Layers.{EventRun, event_run, run_events, view_run_by, counted}
use Rattle.model.proofs.soundness.LoadSound.{load-refused}
use Rattle.model.proofs.journal.Opened.{load-invariant}
use Rattle.state.specs.declared.state.State.{State}
use Rattle.state.specs.declared.answer.Answer.TheVariants.{Done}
use Rattle.state.specs.declared.answer.Answer.{Answer}
use Rattle.call_list.specs.declared.ListReply.{ListReply}
use Rattle.state.specs.declared.answer.Answered.{Answered}
use Rattle.state.specs.View.{view_state}
use Rattle.state.specs.Outcome.{Outcome, outcome, reply_of, view_outcome, answered}
use Rattle.load.specs.Exact.{load}
use Rattle.load.proofs.Told.{IsOther, told-good, told-bad}
use Rattle.four_state.specs.MixedLists.{MixedCall, MixedReply, counts_as, mixed_run}
use Rattle.four_state.proofs.MixedLists.{mixed-keeps}
use Rattle.call_rows.specs.Rows.{decoded, is_given}
use Rattle.call_rows.proofs.RowListLaws.{six-for-each}
use Rattle.call_list.specs.declared.ListReply.TheVariants.{Made, BadLoad, Malformed, ShortAnswers}
use Rattle.call_list.specs.Run.{exact_mixed_step}
use Rattle.call_list.specs.Answers.{words_of}
use Rattle.call_list.specs.WholeList.{list_outcome, outcome_of, MadeFrom, RowsMade}
use Rattle.call_list.specs.DemandOfCalls.{DemandOfCalls}
use Rattle.call_list.specs.Loaded.{load_and_run_outcome, DemandMet, DemandMetIfMade, LoadReplied}
use Rattle.call_list.proofs.RunWays.{given-cases}
use Rattle.call_list.proofs.DemandLaws.{demand-of-calls}

-- ---- the three clauses

module _ (s : State) (list : List ℕ) (first : ℕ) (store : Store) (words : List ℕ) where
  abbrev start : step.Outcome
  start = model.load (view_state s) list first store

  abbrev Clauses : Option (List MixedCall) → Answered ListReply → Store → List ℕ → Type 0
  Clauses given r store' words' =
      (list_outcome r store' words' ≡ load_and_run_outcome s list first store words given)
      × (LoadReplied s list first store r.answer × DemandMetIfMade s list first store words given r store' words')

  malformed : (given : Option (List MixedCall)) → is_given given ≡ false → Clauses given (answered Malformed s) store words
  unfolding load_and_run_outcome run_events words_of
  malformed none e = (refl, (λ reply is. none-some is, λ calls is. none-some is))
  malformed (some calls) e = clash refl e

  short : (calls : List MixedCall) → length words < 2 * length calls → Clauses (some calls) (answered ShortAnswers s) store words
  unfolding load_and_run_outcome run_events words_of
  short calls h =
      let no = lt-leb (2 * length calls) (length words) h in
      (rw no, (λ reply is. none-some is, λ others is made. let z : ◌≡◌ {A = Bool} true false = cc in absurd (true≢false z)))

  -- Load as it was made: its outcome o
  module _ (o : Outcome) (exact : o ≡ load s list first store) where
    bad : (calls : List MixedCall) → 2 * length calls ≤ length words → is_bad_load list first store ≡ true
        → Clauses (some calls) (answered BadLoad o.answered.state) o.store words
    unfolding load_and_run_outcome run_events words_of
    bad calls h e =
        let yes = le-leb (2 * length calls) (length words) h in (
          ap (λ (z : Outcome). list_outcome (answered BadLoad z.answered.state) z.store words) exact ∙ rw (yes, e),
          (
            λ reply is. (load-refused (view_state s) list first store 20).1 (refl, e) ∙ some-injective _ _ is,
            λ others same made. let z : ◌≡◌ {A = Bool} true false = cc in absurd (true≢false z),
          ),
        )

    module _ (meaning : view_outcome o ≡ model.load (view_state s) list first store) (good : o.answered.answer ≡ Done)
        (calls : List MixedCall) (s' : State) (store' : Store) (words' : List ℕ)
        (m : MadeFrom o.answered.state o.store words calls s' store' words') where
      is-loaded : start.reply ≡ accepted done
      is-loaded = ap (λ (z : step.Outcome). z.reply) (sym meaning) ∙ ap reply_of good

      demand : DemandOfCalls s list first store calls
      demand = demand-of-calls s list first store is-loaded calls

      ran-as : run_events exact_mixed_step (load s list first store).answered.state (load s list first store).store calls ≡ event_run m.made s' store'
      ran-as = ap (λ (z : Outcome). run_events exact_mixed_step z.answered.state z.store calls) (sym exact) ∙ m.exact

      -- what is given back, as the model has it
      given_back : mixed_run start.state start.store calls ≡ view_run_by view_state (event_run m.made s' store')
      given_back = sym demand.seen_as ∙ ap (view_run_by view_state) ran-as

      met : DemandMet s list first store words calls s' store' words'
      met =
          let j = opened (table_or_empty (read_list list)) in
          record {
            demand = demand;
            made = m.made;
            ran_as = ran-as;
            answered = m.written;
            agrees =
                subst (λ (r : EventRun states.State MixedCall MixedReply). AgreesWith (journal j (counted counts_as r.made)) r.state r.store) given_back
                (demand.demand3.after_each calls [] (append-nil calls));
            invariant =
                subst (λ (r : EventRun states.State MixedCall MixedReply). Invariant (journal j (counted counts_as r.made)) r.state r.store) given_back
                (mixed-keeps j start.state start.store (load-invariant (view_state s) list first store is-loaded) calls);
          }

      ends : 2 * length calls ≤ length words → is_bad_load list first store ≡ false
          → list_outcome (answered Made s') store' words' ≡ load_and_run_outcome s list first store words (some calls)
      unfolding load_and_run_outcome
      ends h e =
          let yes = le-leb (2 * length calls) (length words) h in
          rw (yes, e)
          (ap (list_outcome (answered Made s') store') m.written ∙ ap (λ (r : EventRun State MixedCall MixedReply). outcome_of Made r words) (sym ran-as))

-- ---- what `load_and_run` learns on its way

module _ (s : State) (list : List ℕ) (first : ℕ) (store : Store) (words rows bytes : List ℕ) (r : Answered ListReply) where
  pub ends-malformed : is_given (decoded rows bytes) ≡ false → r ≡ answered Malformed s
      → Clauses s list first store words (decoded rows bytes) r store words
  ends-malformed g is = rw is (malformed s list first store words (decoded rows bytes) g)

  pub ends-short : is_given (decoded rows bytes) ≡ true → length words < length rows / 3 → r ≡ answered ShortAnswers s
      → Clauses s list first store words (decoded rows bytes) r store words
  ends-short g h is =
      rw is
      (given-cases (λ (o : Option (List MixedCall)). Clauses s list first store words o (answered ShortAnswers s) store words) (decoded rows bytes) g
      λ calls e. short s list first store words calls (omega (arith, six-for-each rows bytes calls e)))

  module _ (loaded : Answered Answer) (store' : Store) (exact : outcome loaded store' ≡ load s list first store)
      (g : is_given (decoded rows bytes) ≡ true) (h : length rows / 3 ≤ length words) where
    abbrev o : Outcome
    o = outcome loaded store'

    pub ends-bad : IsOther loaded.answer → r ≡ answered BadLoad loaded.state
        → Clauses s list first store words (decoded rows bytes) r store' words
    ends-bad d is =
        rw is
        (given-cases (λ (z : Option (List MixedCall)). Clauses s list first store words z (answered BadLoad loaded.state) store' words) (decoded rows bytes) g
        λ calls e. bad s list first store words o exact calls (omega (arith, six-for-each rows bytes calls e)) (told-bad s list first store o exact d))

    pub ends-made : view_outcome (outcome loaded store') ≡ model.load (view_state s) list first store → loaded.answer ≡ Done
        → (s' : State) (store'' : Store) (words' : List ℕ) → r ≡ answered Made s'
        → RowsMade loaded.state store' words (decoded rows bytes) s' store'' words'
        → Clauses s list first store words (decoded rows bytes) r store'' words'
    ends-made meaning d s' store'' words' is m =
        rw is (
          given-cases (λ (z : Option (List MixedCall)). list_outcome (answered Made s') store'' words' ≡ load_and_run_outcome s list first store words z) (decoded rows bytes) g
              (λ calls e. ends s list first store words o exact meaning d calls s' store'' words' (m calls e) (omega (arith, six-for-each rows bytes calls e)) (told-good s list first store o exact d)),
          (
            λ reply said. ap (λ (z : step.Outcome). z.reply) (sym meaning) ∙ ap reply_of d ∙ some-injective _ _ said,
            λ calls e made. met s list first store words o exact meaning d calls s' store'' words' (m calls e),
          ),
        )

-- The loop over a list of calls: what holds before each turn, as a record, and one law for the beginning, a turn and the end. Assumes
-- nothing.
use Prim.Native.Nat.{ℕ, ◌+◌, ◌*◌, ◌/◌, ◌%◌, ◌≤◌, ◌<◌}
use mathlib.Core.Path.{◌≡◌, refl, sym, ap, subst, ◌∙◌}
use mathlib.Core.Bool.{Bool, true}
use mathlib.Core.List.{List, [], ◌∷◌, ◌++◌, append_assoc, append-nil}
use mathlib.Core.Option.{Option, none, some, some-injective}
use native.Mathlib.Omega.{arith}
use lib.Dec.{eqb}
use lib.ListN.{length, drop, get_or, length-append}
use lib.Seq.{sets, sets-eq, length-sets, take_at, drop_at, drop-drop}
use borrow.Author.Tests.{eqb-true, eqb-false}
use Rattle.std.specs.Simd.{first_chunks}
use Rattle.base.proofs.Tests.{bool_cases, clash}
use Rattle.model.specs.State.{Store}
use Rattle.model.specs.Sound.{sound}
use Rattle.model.specs.Layers.{EventOutcome, made_event, EventRun, event_outcome, event_run, run_events}
use Rattle.model.proofs.journal.EventRuns.{then_made, events-last, view-last}
use Rattle.state.specs.declared.state.State.{State}
use Rattle.state.specs.View.{view_state}
use Rattle.four_state.specs.MixedLists.{MixedCall, MixedReply, mixed_step, MixedMade}
use Rattle.call_rows.specs.declared.row.Row.{Row}
use Rattle.call_rows.specs.declared.answer_words.AnswerWords.{AnswerWords}
use Rattle.call_rows.specs.Row.{row_at, decoded_row}
use Rattle.call_rows.specs.Rows.{decoded, is_given}
use Rattle.call_rows.specs.Answers.{answer_words}
use Rattle.call_rows.proofs.RowListLaws.{decoded_rows, left-over, in-rows, next-call, no-calls-left}
use Rattle.state.specs.declared.answer.Answered.{Answered}
use Rattle.call_list.specs.Run.{exact_mixed_step}
use Rattle.call_list.specs.Answers.{words_of}
use Rattle.call_list.specs.WholeList.{CallMade, RowMade, MadeFrom, RowsMade}
use Rattle.call_list.proofs.SoundnessKept.{made-soundness}

-- ---- the answers

words_last : (l : List MixedMade) (m : MixedMade)
    → words_of (l ++ m ∷ []) ≡ words_of l ++ (answer_words m.answer).kind ∷ (answer_words m.answer).value ∷ []
unfolding words_of
words_last [] m = refl
words_last (first ∷ l) m = ap (λ (w : List ℕ). (answer_words first.answer).kind ∷ (answer_words first.answer).value ∷ w) (words_last l m)

-- two words are put behind those that stand
two-more : (w answers : List ℕ) (at kind value : ℕ) → length w ≡ at → at + 2 ≤ length (w ++ drop at answers)
    → sets (w ++ drop at answers) at (kind ∷ value ∷ []) ≡ (w ++ kind ∷ value ∷ []) ++ drop (at + 2) answers
two-more w answers at kind value is room =
    sets-eq (kind ∷ value ∷ []) (w ++ drop at answers) at room
    ∙ ap (λ (l : List ℕ). l ++ kind ∷ value ∷ [] ++ drop (at + 2) (w ++ drop at answers)) (take_at w (drop at answers) at is)
    ∙ ap (λ (l : List ℕ). w ++ kind ∷ value ∷ [] ++ l) (sym (drop-drop 2 at (w ++ drop at answers)) ∙ ap (drop 2) (drop_at w (drop at answers) at is) ∙ drop-drop 2 at answers)

-- ---- calls made one after the other, and one more

module _ (s₀ : State) (store₀ : Store) (answers₀ : List ℕ) where
  pub none_made : MadeFrom s₀ store₀ answers₀ [] s₀ store₀ answers₀
  unfolding run_events words_of
  none_made = record { made = []; exact = refl; meaning = refl; count = refl; written = refl }

  module _ (past : List MixedCall) (s : State) (store : Store) (answers : List ℕ) (so_far : MadeFrom s₀ store₀ answers₀ past s store answers)
      (call : MixedCall) (given : Answered AnswerWords) (store' : Store) (made : CallMade s store call given store') where
    abbrev l : List MixedMade
    l = so_far.made

    abbrev more : List MixedMade
    more = l ++ made_event call made.answer ∷ []

    abbrev w : List ℕ
    w = words_of l

    abbrev kind : ℕ
    kind = given.answer.kind

    abbrev value : ℕ
    value = given.answer.value

    words_more : words_of more ≡ w ++ kind ∷ value ∷ []
    words_more = words_last l (made_event call made.answer) ∙ ap (λ (x : AnswerWords). w ++ x.kind ∷ x.value ∷ []) (sym made.words)

    pub one-more-made : (at : ℕ) → at ≡ 2 * length past → at + 2 ≤ length answers
        → MadeFrom s₀ store₀ answers₀ (past ++ call ∷ []) given.state store' (sets answers at (kind ∷ value ∷ []))
    one-more-made at is_at room =
        let o = event_outcome made.answer given.state store' in
        let place : length w ≡ at = so_far.count ∙ sym is_at in
        let before : answers ≡ w ++ drop at answers₀ = so_far.written ∙ ap (λ (n : ℕ). w ++ drop n answers₀) place in
        let roomy : at + 2 ≤ length (w ++ drop at answers₀) = omega (arith, ap length before) in
        let long : length (words_of more) ≡ at + 2 = omega (arith, ap length words_more, length-append w (kind ∷ value ∷ [])) in
        record {
          made = more;
          exact =
              events-last exact_mixed_step s₀ store₀ past call
              ∙ ap (λ (x : EventRun State MixedCall MixedReply). then_made exact_mixed_step x call (exact_mixed_step x.state x.store call)) so_far.exact
              ∙ ap (λ (x : EventOutcome State MixedReply). then_made exact_mixed_step (event_run l s store) call x) (sym made.exact);
          count = long ∙ omega (arith, length-append past (call ∷ []));
          meaning = view-last view_state exact_mixed_step mixed_step (view_state s₀) store₀ past call (event_run l s store) o so_far.meaning made.meaning;
          written =
              ap (λ (a : List ℕ). sets a at (kind ∷ value ∷ [])) before
              ∙ two-more w answers₀ at kind value place roomy
              ∙ ap (λ (n : ℕ). (w ++ kind ∷ value ∷ []) ++ drop n answers₀) (sym long)
              ∙ ap (λ (x : List ℕ). x ++ drop (length (words_of more)) answers₀) (sym words_more);
        }

-- ---- the loop

-- n rows are past: their calls were made and their answers written, what is left is given, and the state is sound for the store as before
-- the first call
pub record MadeSoFar (rows : List (List ℕ)) (bytes : List ℕ) (s₀ : State) (store₀ : Store) (answers₀ : List ℕ) (s : State) (store : Store) (answers : List ℕ) (n : ℕ) : Type 0 where
  pub past : List MixedCall
  pub rest : List MixedCall
  pub whole : decoded_rows rows bytes ≡ some (past ++ rest)
  pub left : decoded_rows (drop n rows) bytes ≡ some rest
  pub so_far : MadeFrom s₀ store₀ answers₀ past s store answers
  pub place : n ≡ length past
  pub sound-kept : sound (view_state s) store ≡ sound (view_state s₀) store₀
  pub store_long : length store ≡ length store₀
  pub answers-long : length answers ≡ length answers₀

module _ (rows : List (List ℕ)) (bytes : List ℕ) (s₀ : State) (store₀ : Store) (answers₀ : List ℕ) where
  begin : (calls : List MixedCall) → decoded_rows rows bytes ≡ some calls → MadeSoFar rows bytes s₀ store₀ answers₀ s₀ store₀ answers₀ 0
  begin calls e =
      record {
        past = [];
        rest = calls;
        whole = e;
        left = e;
        so_far = none_made s₀ store₀ answers₀;
        place = refl;
        sound-kept = refl;
        store_long = refl;
        answers-long = refl;
      }

  pub none_so_far : is_given (decoded_rows rows bytes) ≡ true → MadeSoFar rows bytes s₀ store₀ answers₀ s₀ store₀ answers₀ 0
  none_so_far given = go (decoded_rows rows bytes) refl given
    where
      go : (o : Option (List MixedCall)) → decoded_rows rows bytes ≡ o → is_given o ≡ true → MadeSoFar rows bytes s₀ store₀ answers₀ s₀ store₀ answers₀ 0
      go none e g = clash g refl
      go (some calls) e g = begin calls e

  module _ (s : State) (store : Store) (answers : List ℕ) (n : ℕ) (so : MadeSoFar rows bytes s₀ store₀ answers₀ s store answers n)
    where
      -- what the check before the first call said holds still
      pub sound-still : (b : Bool) → b ≡ sound (view_state s₀) store₀ → b ≡ sound (view_state s) store
      sound-still b e = e ∙ sym so.sound-kept

      pub room-left : n < length rows → 2 * length rows ≤ length answers₀ → 2 * n + 2 ≤ length answers
      room-left h room = omega (arith, so.answers-long)

      pub one_more : n < length rows → 2 * length rows ≤ length answers₀ → (r : Row) → r ≡ row_at (get_or rows n []) 0 → (given : Answered AnswerWords) (store' : Store)
          → length store' ≡ length store → RowMade s store r bytes given store'
          → (answers' : List ℕ) → answers' ≡ sets answers (2 * n) (given.answer.kind ∷ given.answer.value ∷ [])
          → MadeSoFar rows bytes s₀ store₀ answers₀ given.state store' answers' (n + 1)
      one_more h room r is given store' long row answers' put =
          let f = next-call rows bytes n so.rest so.left h in
          let here : decoded_row r bytes ≡ some f.call = ap (λ (x : Row). decoded_row x bytes) is ∙ f.here in
          let made = row f.call here in
          let next = one-more-made s₀ store₀ answers₀ so.past s store answers so.so_far f.call given store' made (2 * n) (omega (arith, so.place)) (room-left h room) in
          record {
            past = so.past ++ f.call ∷ [];
            rest = f.rest;
            whole =
                so.whole
                ∙ ap (λ (l : List MixedCall). some (so.past ++ l)) f.both
                ∙ ap some (sym (append_assoc so.past (f.call ∷ []) f.rest));
            left = f.later;
            so_far = subst (λ (a : List ℕ). MadeFrom s₀ store₀ answers₀ (so.past ++ f.call ∷ []) given.state store' a) (sym put) next;
            place = omega (arith, so.place, length-append so.past (f.call ∷ []));
            sound-kept = made-soundness s store f.call given store' made ∙ so.sound-kept;
            store_long = long ∙ so.store_long;
            answers-long = ap length put ∙ length-sets answers (2 * n) (given.answer.kind ∷ given.answer.value ∷ []) ∙ so.answers-long;
          }

      pub all_made : length rows ≤ n → RowsMade s₀ store₀ answers₀ (decoded_rows rows bytes) s store answers
      all_made h calls e =
          let none_left = no-calls-left rows bytes n so.rest so.left h in
          let all : so.past ≡ calls =
          sym (append-nil so.past)
          ∙ ap (λ (l : List MixedCall). so.past ++ l) (sym none_left)
          ∙ some-injective _ _ (sym so.whole ∙ e) in
          subst (λ (l : List MixedCall). MadeFrom s₀ store₀ answers₀ l s store answers) all so.so_far

-- ---- the rows of the words that are lent: a list that is given has no words left over

pub given-in-rows : (words bytes : List ℕ) (rows : List (List ℕ)) → rows ≡ first_chunks 6 (length words / 6) words
    → is_given (decoded words bytes) ≡ true → decoded words bytes ≡ decoded_rows rows bytes
given-in-rows words bytes rows cut given =
    bool_cases (eqb (length words % 6) 0)
    (λ t. in-rows words bytes rows cut (eqb-true _ _ t))
    (λ f. clash {X = decoded words bytes ≡ decoded_rows rows bytes} (sym (ap is_given (left-over words bytes (eqb-false _ _ f))) ∙ given) refl)

module _ (words bytes : List ℕ) (rows : List (List ℕ)) (cut : rows ≡ first_chunks 6 (length words / 6) words)
    (given : is_given (decoded words bytes) ≡ true) (s₀ : State) (store₀ : Store) (answers₀ : List ℕ) where
  pub made-begins : MadeSoFar rows bytes s₀ store₀ answers₀ s₀ store₀ answers₀ 0
  made-begins = none_so_far rows bytes s₀ store₀ answers₀ (sym (ap is_given (given-in-rows words bytes rows cut given)) ∙ given)

  pub made-ends : (s : State) (store : Store) (answers : List ℕ) (n : ℕ) → MadeSoFar rows bytes s₀ store₀ answers₀ s store answers n
      → length rows ≤ n → RowsMade s₀ store₀ answers₀ (decoded words bytes) s store answers
  made-ends s store answers n so h calls e =
      all_made rows bytes s₀ store₀ answers₀ s store answers n so h calls (sym (given-in-rows words bytes rows cut given) ∙ e)

-- The loop over rows of the twelve calls: what holds before each turn, as a record on that of `call_list`, and one law for the
-- beginning, a turn and the end. Assumes nothing.
use Prim.Native.Nat.{ℕ, ◌+◌, ◌*◌, ◌/◌, ◌≤◌, ◌<◌}
use mathlib.Core.Path.{◌≡◌, refl, sym, ap, subst, ◌∙◌}
use mathlib.Core.Bool.{true}
use mathlib.Core.List.{List, [], ◌∷◌, ◌++◌}
use mathlib.Core.Option.{some, some-injective}
use native.Mathlib.Omega.{arith}
use lib.ListN.{length, drop, get_or}
use Rattle.std.specs.Simd.{first_chunks}
use lib.Seq.{sets, length-sets}
use Rattle.base.proofs.Tests.{clash}
use Rattle.model.specs.State.{Store}
use Rattle.state.specs.declared.state.State.{State}
use Rattle.state.specs.declared.answer.Answer.{Answer}
use Rattle.state.specs.declared.answer.Answered.{Answered}
use Rattle.four_state.specs.MixedLists.{MixedCall, of_twelve, of_four}
use Rattle.call_rows.specs.declared.row.Row.{Row}
use Rattle.call_rows.specs.declared.answer_words.AnswerWords.{AnswerWords}
use Rattle.call_rows.specs.Row.{row_at, decoded_row}
use Rattle.call_rows.specs.Rows.{decoded, is_given}
use Rattle.call_rows.proofs.RowListLaws.{decoded_rows, next-call}
use Rattle.call_list.specs.WholeList.{CallMade, RowMade, RowsMade}
use Rattle.call_list.proofs.ListLaws.{MadeSoFar, one_more, given-in-rows, made-begins, made-ends}
use Rattle.measured.specs.Twelve.{all_twelve, OfTheTwelve, in_words, TwelveMade, TwelvesMade}

-- ---- the next call

-- of a list of the twelve every part is
next-twelve : (past : List MixedCall) (call : MixedCall) (rest : List MixedCall) → all_twelve (past ++ call ∷ rest) ≡ true
    → all_twelve (call ∷ rest) ≡ true
unfolding all_twelve
next-twelve [] call rest e = e
next-twelve (of_twelve first ∷ past) call rest e = next-twelve past call rest e
next-twelve (of_four first ∷ past) call rest e = clash e refl

-- then it was made
twelve-made : (s : State) (store : Store) (r : Row) (bytes : List ℕ) (made : Answered Answer) (store' : Store) (call : MixedCall) (rest : List MixedCall)
    → all_twelve (call ∷ rest) ≡ true → decoded_row r bytes ≡ some call → TwelveMade s store r bytes made store'
    → RowMade s store r bytes (in_words made) store'
unfolding all_twelve
twelve-made s store r bytes made store' (of_twelve call) rest t here row other e =
    subst (λ (x : MixedCall). CallMade s store x (in_words made) store') (some-injective _ _ (sym here ∙ e)) (row call here)
twelve-made s store r bytes made store' (of_four call) rest t here row other e = clash t refl

-- ---- the loop

-- n rows are past: what is left is given, and where all calls are of the twelve, those past were made
pub record TwelveSoFar (rows : List (List ℕ)) (bytes : List ℕ) (s₀ : State) (store₀ : Store) (answers₀ : List ℕ) (s : State) (store : Store) (answers : List ℕ) (n : ℕ) : Type 0 where
  pub rest : List MixedCall
  pub left : decoded_rows (drop n rows) bytes ≡ some rest
  pub store_long : length store ≡ length store₀
  pub answers-long : length answers ≡ length answers₀
  pub made : OfTheTwelve (decoded_rows rows bytes) → MadeSoFar rows bytes s₀ store₀ answers₀ s store answers n

module _ (rows : List (List ℕ)) (bytes : List ℕ) (s₀ : State) (store₀ : Store) (answers₀ : List ℕ) where
  none_yet : MadeSoFar rows bytes s₀ store₀ answers₀ s₀ store₀ answers₀ 0 → TwelveSoFar rows bytes s₀ store₀ answers₀ s₀ store₀ answers₀ 0
  none_yet so = record { rest = so.rest; left = so.left; store_long = refl; answers-long = refl; made = λ twelve. so }

  module _ (s : State) (store : Store) (answers : List ℕ) (n : ℕ) (so : TwelveSoFar rows bytes s₀ store₀ answers₀ s store answers n)
    where
      pub room-left : n < length rows → 2 * length rows ≤ length answers₀ → 2 * n + 2 ≤ length answers
      room-left h room = omega (arith, so.answers-long)

      pub one-more-twelve : n < length rows → 2 * length rows ≤ length answers₀ → (r : Row) → r ≡ row_at (get_or rows n []) 0 → (made : Answered Answer) (store' : Store)
          → length store' ≡ length store → TwelveMade s store r bytes made store'
          → (given : AnswerWords) → given ≡ (in_words made).answer
          → (answers' : List ℕ) → answers' ≡ sets answers (2 * n) (given.kind ∷ given.value ∷ [])
          → TwelveSoFar rows bytes s₀ store₀ answers₀ made.state store' answers' (n + 1)
      one-more-twelve h room r is made store' long row given words_are answers' put =
          let f = next-call rows bytes n so.rest so.left h in
          let here : decoded_row r bytes ≡ some f.call = ap (λ (x : Row). decoded_row x bytes) is ∙ f.here in
          let put-so : answers' ≡ sets answers (2 * n) ((in_words made).answer.kind ∷ (in_words made).answer.value ∷ []) =
          put ∙ ap (λ (w : AnswerWords). sets answers (2 * n) (w.kind ∷ w.value ∷ [])) words_are in
          record {
            rest = f.rest;
            left = f.later;
            store_long = long ∙ so.store_long;
            answers-long = ap length put ∙ length-sets answers (2 * n) (given.kind ∷ given.value ∷ []) ∙ so.answers-long;
            made = λ twelve.
                let past = so.made twelve in
                let all : all_twelve (past.past ++ f.call ∷ f.rest) ≡ true =
                twelve _ (past.whole ∙ ap (λ (l : List MixedCall). some (past.past ++ l)) (some-injective _ _ (sym past.left ∙ so.left) ∙ f.both)) in
                one_more rows bytes s₀ store₀ answers₀ s store answers n past h room r is (in_words made) store' long
                (twelve-made s store r bytes made store' f.call f.rest (next-twelve past.past f.call f.rest all) here row) answers' put-so;
          }

-- ---- the rows of the words that are lent

module _ (words bytes : List ℕ) (rows : List (List ℕ)) (cut : rows ≡ first_chunks 6 (length words / 6) words)
    (given : is_given (decoded words bytes) ≡ true) (s₀ : State) (store₀ : Store) (answers₀ : List ℕ) where
  pub twelve-begins : TwelveSoFar rows bytes s₀ store₀ answers₀ s₀ store₀ answers₀ 0
  twelve-begins = none_yet rows bytes s₀ store₀ answers₀ (made-begins words bytes rows cut given s₀ store₀ answers₀)

  pub twelve-ends : (s : State) (store : Store) (answers : List ℕ) (n : ℕ) → TwelveSoFar rows bytes s₀ store₀ answers₀ s store answers n
      → length rows ≤ n → (handed : State) → s₀ ≡ handed → TwelvesMade handed store₀ answers₀ (decoded words bytes) s store answers
  twelve-ends s store answers n so h handed is twelve =
      let same = given-in-rows words bytes rows cut given in
      subst (λ (x : State). RowsMade x store₀ answers₀ (decoded words bytes) s store answers) is
      (made-ends words bytes rows cut given s₀ store₀ answers₀ s store answers n (so.made (λ calls e. twelve calls (same ∙ e))) h)

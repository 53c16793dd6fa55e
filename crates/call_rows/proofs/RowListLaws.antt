-- A list of words six at a time, as loops go along it. Assumes nothing.
use Prim.Native.Nat.{ℕ, zero, suc, ◌+◌, ◌*◌, ◌/◌, ◌%◌, ◌≤◌, ◌<◌}
use mathlib.Core.Path.{◌≡◌, refl, sym, ap, ◌∙◌}
use mathlib.Core.Bool.{Bool, true, false, ◌&&◌}
use mathlib.Core.List.{List, [], ◌∷◌}
use mathlib.Core.Option.{Option, none, some, map, some-injective}
use native.Mathlib.Numerals.{add-one}
use native.Mathlib.Omega.{arith}
use lib.Dec.{eqb}
use borrow.Author.Tests.{eqb-true, eqb-false}
use lib.ListN.{length, drop, get_or, drop_of_length-le}
use lib.Seq.{drop-cons}
use Rattle.std.specs.Simd.{first_chunks}
use Rattle.std.specs.List.{list_all}
use Rattle.std.specs.Prelude as code
use Rattle.std.specs.Prelude.{is_some}
use Rattle.base.proofs.Tests.{none-some}
use Rattle.four_state.specs.MixedLists.{MixedCall}
use Rattle.call_rows.specs.declared.row.Row.{Row}
use Rattle.call_rows.specs.declared.row.MixedRequest.{MixedRequest}
use Rattle.call_rows.specs.Row.{row, row_at, block_of, mixed_of, request_in, request_within, decoded_row}
use Rattle.call_rows.specs.Rows.{before, decoded, is_given}

-- ---- a row

module _ (r : Row) (bytes : List ℕ) where
  pub row-decoded : (request : MixedRequest) → request_within r (length bytes) ≡ some request → decoded_row r bytes ≡ some (mixed_of request (block_of r bytes))
  unfolding decoded_row
  row-decoded request e = rw e

  pub row-malformed : request_within r (length bytes) ≡ none → decoded_row r bytes ≡ none
  unfolding decoded_row
  row-malformed e = rw e

-- ---- rows of six words

-- the calls of a list of rows
unfoldable pub decoded_rows : List (List ℕ) → List ℕ → Option (List MixedCall)
decoded_rows [] bytes = some []
decoded_rows (row ∷ rows) bytes = before (decoded_row (row_at row 0) bytes) (decoded_rows rows bytes)

rows-of : (k : ℕ) (words bytes : List ℕ) → length words ≡ 6 * k → decoded words bytes ≡ decoded_rows (first_chunks 6 k words) bytes
unfolding decoded decoded_rows
rows-of zero [] bytes h = refl
rows-of zero (a ∷ words) bytes h = absurd (omega arith)
rows-of (suc k) [] bytes h = absurd (omega arith)
rows-of (suc k) (a ∷ []) bytes h = absurd (omega arith)
rows-of (suc k) (a ∷ b ∷ []) bytes h = absurd (omega arith)
rows-of (suc k) (a ∷ b ∷ c ∷ []) bytes h = absurd (omega arith)
rows-of (suc k) (a ∷ b ∷ c ∷ d ∷ []) bytes h = absurd (omega arith)
rows-of (suc k) (a ∷ b ∷ c ∷ d ∷ e ∷ []) bytes h = absurd (omega arith)
rows-of (suc k) (a ∷ b ∷ c ∷ d ∷ e ∷ f ∷ words) bytes h = ap (before (decoded_row (row a b c d e f) bytes)) (rows-of k words bytes (omega arith))

before-none : (o : Option MixedCall) → before o none ≡ none
before-none none = refl
before-none (some call) = refl

-- words left over make the list malformed
pub left-over : (words bytes : List ℕ) → (length words % 6 ≡ 0 → ⊥) → decoded words bytes ≡ none
unfolding decoded
left-over [] bytes h = absurd (h refl)
left-over (a ∷ []) bytes h = refl
left-over (a ∷ b ∷ []) bytes h = refl
left-over (a ∷ b ∷ c ∷ []) bytes h = refl
left-over (a ∷ b ∷ c ∷ d ∷ []) bytes h = refl
left-over (a ∷ b ∷ c ∷ d ∷ e ∷ []) bytes h = refl
left-over (a ∷ b ∷ c ∷ d ∷ e ∷ f ∷ words) bytes h =
    ap (before (decoded_row (row a b c d e f) bytes)) (left-over words bytes (λ z. h (omega arith))) ∙ before-none (decoded_row (row a b c d e f) bytes)

module _ (words bytes : List ℕ) (rows : List (List ℕ)) (cut : rows ≡ first_chunks 6 (length words / 6) words) where
  pub in-rows : length words % 6 ≡ 0 → decoded words bytes ≡ decoded_rows rows bytes
  in-rows h = rows-of (length words / 6) words bytes (omega arith) ∙ ap (λ (l : List (List ℕ)). decoded_rows l bytes) (sym cut)

-- ---- a list that is given begins with a call, and what is left is given

pub record First (a : Option MixedCall) (b : Option (List MixedCall)) (calls : List MixedCall) : Type 0 where
  pub call : MixedCall
  pub rest : List MixedCall
  pub here : a ≡ some call
  pub later : b ≡ some rest
  pub both : calls ≡ call ∷ rest

first_of : (a : Option MixedCall) (b : Option (List MixedCall)) (calls : List MixedCall) → before a b ≡ some calls → First a b calls
first_of none b calls e = none-some e
first_of (some call) none calls e = none-some e
first_of (some call) (some rest) calls e =
    record { call = call; rest = rest; here = refl; later = refl; both = sym (some-injective _ _ e) }

module _ (rows : List (List ℕ)) (bytes : List ℕ) (n : ℕ) (calls : List MixedCall) (given : decoded_rows (drop n rows) bytes ≡ some calls) where
  pub next-call : n < length rows → First (decoded_row (row_at (get_or rows n []) 0) bytes) (decoded_rows (drop (n + 1) rows) bytes) calls
  unfolding decoded_rows
  next-call h =
      let e : drop n rows ≡ get_or rows n [] ∷ drop (n + 1) rows = drop-cons rows n [] h ∙ rw add-one in
      first_of _ _ calls (rw e at given)

  pub no-calls-left : length rows ≤ n → calls ≡ []
  unfolding decoded_rows
  no-calls-left h = some-injective _ _ (sym given ∙ ap (λ (l : List (List ℕ)). decoded_rows l bytes) (drop_of_length-le rows {i = n} h))

-- six words for each call
pub six-for-each : (words bytes : List ℕ) (calls : List MixedCall) → decoded words bytes ≡ some calls → length words ≡ 6 * length calls
unfolding decoded
six-for-each [] bytes calls e = omega (arith, ap length (some-injective _ _ e))
six-for-each (a ∷ []) bytes calls e = none-some e
six-for-each (a ∷ b ∷ []) bytes calls e = none-some e
six-for-each (a ∷ b ∷ c ∷ []) bytes calls e = none-some e
six-for-each (a ∷ b ∷ c ∷ d ∷ []) bytes calls e = none-some e
six-for-each (a ∷ b ∷ c ∷ d ∷ e ∷ []) bytes calls g = none-some g
six-for-each (a ∷ b ∷ c ∷ d ∷ e ∷ f ∷ words) bytes calls g =
    let first = first_of (decoded_row (row a b c d e f) bytes) (decoded words bytes) calls g in
    omega (arith, ap length first.both, six-for-each words bytes first.rest first.later)

-- ---- the check: the whole list is given exactly if each row has a request

abbrev pub is_there : Option MixedRequest → Bool
is_there none = false
is_there (some request) = true

unfoldable pub has_request : List ℕ → List ℕ → Bool
has_request bytes words = is_there (request_within (row_at words 0) (length bytes))

shown-there : (x : code.Option MixedRequest) → is_some x ≡ is_there (request_in x)
shown-there (code.Some request) = refl
shown-there code.None = refl

-- the code's test of a row
module _ (bytes words : List ℕ) (answer : code.Option MixedRequest) where
  pub told-request : request_in answer ≡ request_within (row_at words 0) (length bytes) → is_some answer ≡ has_request bytes words
  unfolding has_request
  told-request told = shown-there answer ∙ ap is_there told

one-given : (f : MixedRequest → MixedCall) (o : Option MixedRequest) (calls : Option (List MixedCall))
    → is_given (before (map f o) calls) ≡ (is_there o && is_given calls)
one-given f none calls = refl
one-given f (some request) none = refl
one-given f (some request) (some calls) = refl

given-rows : (bytes : List ℕ) (rows : List (List ℕ)) → is_given (decoded_rows rows bytes) ≡ list_all (has_request bytes) rows
unfolding decoded_rows decoded_row has_request
given-rows bytes [] = refl
given-rows bytes (row ∷ rows) =
    one-given (λ request. mixed_of request (block_of (row_at row 0) bytes)) (request_within (row_at row 0) (length bytes)) (decoded_rows rows bytes)
    ∙ ap (λ rest. has_request bytes row && rest) (given-rows bytes rows)

-- rest is what is left over, and empty the code's test of it
module _ (words bytes : List ℕ) (rest : ℕ) (left : rest ≡ length words % 6) (empty : Bool) (told : empty ≡ eqb rest 0) where
  pub check-left-over : empty ≡ false → empty ≡ is_given (decoded words bytes)
  check-left-over e =
      let other : length words % 6 ≡ 0 → ⊥ = λ z. eqb-false rest 0 (sym told ∙ e) (left ∙ z) in
      e ∙ sym (ap is_given (left-over words bytes other))

  pub check-rows : empty ≡ true → (rows : List (List ℕ)) (r : Bool) → rows ≡ first_chunks 6 (length words / 6) words
      → r ≡ list_all (has_request bytes) rows → r ≡ is_given (decoded words bytes)
  check-rows e rows r cut all =
      let none_left = eqb-true rest 0 (sym told ∙ e) in
      all ∙ sym (ap is_given (in-rows words bytes rows cut (sym left ∙ none_left)) ∙ given-rows bytes rows)

-- What each line gives, from what the functions that it calls promise: r is what a line gives back, x what a call left of the bytes that
-- were lent to it. Assumes nothing.
use Prim.Native.Nat.{ℕ, ◌+◌, ◌-◌, ◌≤◌, ◌<◌}
use mathlib.Core.Path.{◌≡◌, refl, sym, ap, ◌∙◌}
use mathlib.Core.Bool.{Bool, true, false}
use mathlib.Core.List.{List, ◌++◌}
use native.Mathlib.Omega.{arith}
use lib.ListN.{length, take, drop, take-append-drop}
use borrow.Author.Tests.{lt-ltb, le-ltb, le-leb, lt-leb}
use Rattle.text.specs.Put.{Put}
use Rattle.model.specs.State.{Store}
use Rattle.model.specs.Calls.{Call, transfer_data}
use Rattle.model.specs.Layers.{EventOutcome}
use Rattle.state.specs.declared.state.State.{State}
use Rattle.state.specs.declared.answer.Answer.TheVariants.{Done}
use Rattle.state.specs.declared.answer.Answer.{Answer}
use Rattle.state.specs.declared.answer.Answered.{Answered}
use Rattle.state.specs.Outcome.{Outcome, outcome}
use Rattle.load.specs.Exact.{load}
use Rattle.manager.specs.Accepts.{exact_step}
use Rattle.four_state.specs.declared.call.OldCall.{OldCall}
use Rattle.four_state.specs.Exact.{old_outcome, exact_old_step}
use Rattle.script_bytes.specs.Block.{block_bytes}
use Rattle.script_calls.specs.declared.kept.Kept.{Kept}
use Rattle.script_calls.specs.declared.kept.LineAnswer.{LineAnswer}
use Rattle.script_calls.specs.declared.kept.LineAnswer.TheVariants as line-answer
use Rattle.script_calls.specs.declared.kept.Played.{Played}
use Rattle.script_calls.specs.Kept.{nothing_changed, answered_with, old_answered_with, LineOutcome, line_outcome}
use Rattle.script_calls.specs.Line.{lent_count, calling, calling_old, length_after, loading, Poked, poke_answer, poking}
use Rattle.script_calls.proofs.LentLaws.{take-lent, drop-lent, block-taken}

-- ---- the twelve calls

-- what a call gives, with the bytes behind those that are lent
abbrev behind_call : ℕ → Store → Outcome → LineOutcome
behind_call n rest o = line_outcome (answered_with o.answered n) (o.store ++ rest)

pub call_played : (call : Call) (k : Kept) (l : Store) (n : ℕ) (made : Answered Answer) (x : Store) (r : Played)
    → n ≡ lent_count k.store_length (length l) → outcome made x ≡ exact_step k.state (take n l) call
    → r ≡ answered_with made k.store_length → line_outcome r (x ++ drop n l) ≡ calling call k l
unfolding calling
call_played call k l n made x r count same e =
    let asked = k.store_length in
    ap (λ (p : Played). line_outcome p (x ++ drop n l)) e
    ∙ ap (behind_call asked (drop n l)) same
    ∙ ap (λ (store : Store). behind_call asked (drop n l) (exact_step k.state store call)) (take-lent asked l n count)
    ∙ ap (λ (rest : Store). behind_call asked rest (exact_step k.state (take asked l) call)) (drop-lent asked l n count)

-- ---- the old calls

-- what an old call gives, with the bytes behind those that are lent
abbrev behind_old_call : ℕ → Store → EventOutcome State ℕ → LineOutcome
behind_old_call n rest o = line_outcome (old_answered_with o.answer o.state n) (o.store ++ rest)

pub old-played : (call : OldCall) (k : Kept) (l : Store) (n : ℕ) (made : Answered ℕ) (r : Played)
    → n ≡ lent_count k.store_length (length l) → old_outcome made (take n l) ≡ exact_old_step k.state (take n l) call
    → r ≡ old_answered_with made.answer made.state k.store_length → line_outcome r l ≡ calling_old call k l
unfolding calling_old
old-played call k l n made r count same e =
    let asked = k.store_length in
    ap (λ (p : Played). line_outcome p l) e
    ∙ ap (λ (bytes : Store). line_outcome (old_answered_with made.answer made.state asked) bytes) (sym (take-append-drop n l))
    ∙ ap (behind_old_call asked (drop n l)) same
    ∙ ap (λ (store : Store). behind_old_call asked (drop n l) (exact_old_step k.state store call)) (take-lent asked l n count)
    ∙ ap (λ (rest : Store). behind_old_call asked rest (exact_old_step k.state (take asked l) call)) (drop-lent asked l n count)

-- ---- Load

pub load-played : (first size : ℕ) (list : List ℕ) (k : Kept) (bytes : Store) (made : Answered Answer) (x : Store) (after : ℕ) (r : Played)
    → size ≤ length bytes → outcome made x ≡ load k.state list first (take size bytes)
    → after ≡ length_after made.answer k.store_length size → r ≡ answered_with made after
    → line_outcome r (x ++ drop size bytes) ≡ loading first size list k bytes
unfolding loading
load-played first size list k bytes made x after r h same n e =
    let gives : Outcome → LineOutcome = λ o. line_outcome (answered_with o.answered (length_after o.answered.answer k.store_length size)) (o.store ++ drop size bytes) in
    ap (λ (q : Played). line_outcome q (x ++ drop size bytes)) (e ∙ ap (answered_with made) n) ∙ ap gives same ∙ rw (le-ltb (length bytes) size h)

pub load_past : (first size : ℕ) (list : List ℕ) (k : Kept) (bytes : Store) (r : Played) → length bytes < size
    → r ≡ nothing_changed line-answer.Unknown k → line_outcome r bytes ≡ loading first size list k bytes
unfolding loading
load_past first size list k bytes r h e = ap (λ (q : Played). line_outcome q bytes) e ∙ rw (lt-ltb (length bytes) size h)

-- ---- what is handed on is the bytes that the word stands for

module _ (word l : List ℕ) (fits : length word ≤ length l) (end : ℕ) (m : List ℕ) (p : Put l 0 (block_bytes word) end m) where
  pub data-word : (id counter : ℕ) (k : Kept) (bytes : Store) (o : LineOutcome)
      → o ≡ calling (transfer_data id counter (take end m)) k bytes → o ≡ calling (transfer_data id counter (block_bytes word)) k bytes
  data-word id counter k bytes o e = e ∙ ap (λ (b : List ℕ). calling (transfer_data id counter b) k bytes) (block-taken word l fits end m p)

  pub load_word : (first size : ℕ) (k : Kept) (bytes : Store) (o : LineOutcome) → o ≡ loading first size (take end m) k bytes
      → o ≡ loading first size (block_bytes word) k bytes
  load_word first size k bytes o e = e ∙ ap (λ (b : List ℕ). loading first size b k bytes) (block-taken word l fits end m p)

-- ---- another writer

module _ (store text : List ℕ) (at : ℕ) where
  pub poke-past : length store < at → Poked at text store false store
  poke-past h = record { put = rw (lt-leb (at + length text) (length store) (omega arith)); bytes = refl }

  module _ (n : ℕ) (e : n ≡ length text) (within : at ≤ length store) where
    pub poke-long : length store - at < n → Poked at text store false store
    poke-long h = record { put = rw (lt-leb (at + length text) (length store) (omega arith)); bytes = refl }

    pub poke-fits : (next : ℕ) (m : List ℕ) → n ≤ length store - at → Put store at text next m → Poked at text store true m
    poke-fits next m h p = record { put = rw (le-leb (at + length text) (length store) (omega arith)); bytes = p.bytes }

pub put-answer : (put : Bool) → put ≡ true → line-answer.Answer Done ≡ poke_answer put
put-answer put e = rw e

pub poke-played : (at : ℕ) (text : List ℕ) (k : Kept) (l : Store) (n : ℕ) (put : Bool) (x : Store) (answer : LineAnswer) (r : Played)
    → n ≡ lent_count k.store_length (length l) → Poked at text (take n l) put x → answer ≡ poke_answer put
    → r ≡ nothing_changed answer k → line_outcome r (x ++ drop n l) ≡ poking at text k l
unfolding poking
poke-played at text k l n put x answer r count p a e =
    let asked = k.store_length in
    ap (λ (q : Played). line_outcome q (x ++ drop n l)) (e ∙ ap (λ (b : LineAnswer). nothing_changed b k) a)
    ∙ rw (p.bytes, p.put, take-lent asked l n count, drop-lent asked l n count)

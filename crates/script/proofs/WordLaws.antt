-- What `word` gives at a position, for each test that the code makes there. Assumes nothing.
use Prim.Native.Nat.{ℕ, ◌+◌, ◌-◌, ◌≤◌, ◌<◌}
use mathlib.Core.Path.{◌≡◌, refl, sym, ap, ◌∙◌}
use mathlib.Core.List.{List, [], ◌∷◌}
use native.Mathlib.Omega.{arith}
use lib.ListN.{length, take, drop, drop_of_length-le, length-drop}
use lib.Dec.{eqb}
use borrow.Author.Rules.{part_to_end}
use Rattle.std.specs.Prelude.{Option, Some, None, position, ◌==◌}
use Rattle.std.specs.List.{position_or_len}
use Rattle.std.proofs.lemmas.List.Recursion.{is_position_or_len}
use Rattle.base.proofs.Tests.{bool_cases, cond_cases}
use Rattle.text.specs.declared.cursor.Cursor.{Cursor}
use Rattle.text.specs.Number.{cursor, whole_number, number_begins}
use Rattle.text.proofs.Positions.{position-at, position-nowhere}
use Rattle.script.specs.Words.{space, word, word_at, number_word}

pub length-word : (l : List ℕ) → length (word l) ≤ length l
unfolding word
length-word [] = omega arith
length-word (b ∷ l) = cond_cases (λ w. length w ≤ length (b ∷ l)) (eqb b space) [] (b ∷ word l) (λ t. omega arith) (λ f. omega (arith, length-word l))

-- the word is the text's first bytes
pub word-take : (l : List ℕ) → word l ≡ take (length (word l)) l
unfolding word
word-take [] = refl
word-take (b ∷ l) = bool_cases (eqb b space) (λ t. rw t) (λ f. rw f (ap (λ w. b ∷ w) (word-take l)))

-- the word ends at the first space
length-position : (l : List ℕ) → length (word l) ≡ position_or_len (λ b. b == space) l
unfolding word
length-position = is_position_or_len (λ l. length (word l)) (λ b. b == space) refl λ b l. bool_cases (eqb b space) (λ t. rw t) (λ f. rw f (omega arith))

-- a word that begins at `from`, where a part of the text was searched for a space
module _ (s : List ℕ) (from : ℕ) (x : Option ℕ) (q : x ≡ position (λ b. b == space) (take (length s - from) (drop from s))) where
  found : x ≡ position (λ b. b == space) (drop from s)
  found = rw part_to_end at q

  pub word-found : (k : ℕ) → x ≡ Some k → from + k ≡ from + length (word_at s from)
  word-found k e = rw (length-position, (position-at (λ b. b == space) (drop from s) k (sym found ∙ e)).0)

  pub word-not-found : x ≡ None → from ≤ length s → length s ≡ from + length (word_at s from)
  word-not-found e w =
      omega (
        arith,
        length-drop from s,
        length-word (drop from s),
        length-position (drop from s),
        position-nowhere (λ b. b == space) (drop from s) (sym found ∙ e),
      )

-- a word that begins at `from` and ends at `end`: the part between them
module _ (s : List ℕ) (from end : ℕ) (q : end ≡ from + length (word_at s from)) where
  pub word-part : take (end - from) (drop from s) ≡ word_at s from
  word-part = let n : end - from ≡ length (word_at s from) = omega arith in rw (n, ← word-take)

-- behind the last word there is no number
pub number-none : (s : List ℕ) (at most : ℕ) → length s < at → None ≡ number_word s at most
unfolding number_word word whole_number number_begins
number-none s at most h = rw (drop_of_length-le s {i = at} (omega arith))

-- x is what was read of the part
module _ (s : List ℕ) (from end most : ℕ) (x : Option (ℕ × Cursor)) (q : end ≡ from + length (word_at s from))
    (e : x ≡ whole_number most (take (end - from) (drop from s))) where
  whole : x ≡ whole_number most (word_at s from)
  whole = e ∙ ap (whole_number most) (word-part s from end q)

  pub number-ill : (r : Option (ℕ × Cursor)) → r ≡ None → x ≡ None → r ≡ number_word s from most
  unfolding number_word
  number-ill r i h = i ∙ rw (← whole, h)

  pub number_read : (n : ℕ) (next : Cursor) → x ≡ Some (n, next) → Some (n, cursor (end + 1)) ≡ number_word s from most
  unfolding number_word
  number_read n next h = rw (← whole, h, q)

-- What `field`, `behind_field` and `cell` give at a position, for each test that the code makes there. Assumes nothing.
use Prim.Native.Nat.{ℕ, suc, ◌+◌, ◌-◌, ◌≤◌, ◌<◌}
use mathlib.Core.Path.{◌≡◌, refl, sym, ap, ◌∙◌}
use mathlib.Core.List.{List, [], ◌∷◌}
use native.Mathlib.Omega.{arith}
use lib.ListN.{length, take, drop, drop_of_length-le, length-drop}
use lib.Seq.{drop-drop}
use borrow.Author.Rules.{part_to_end}
use Rattle.std.specs.Prelude.{Option, Some, None, position}
use Rattle.std.specs.List.{position_or_len}
use Rattle.std.proofs.lemmas.List.Recursion.{is_position_or_len}
use Rattle.base.proofs.Tests.{bool_cases, cond_cases}
use Rattle.text.proofs.Positions.{position-at, position-nowhere}
use Rattle.rows.specs.Field.{ends_field, field, behind_field, cell, Start}

-- the field ends at the first byte that ends one
length-position : (l : List ℕ) → length (field l) ≡ position_or_len ends_field l
unfolding field
length-position = is_position_or_len (λ l. length (field l)) ends_field refl λ b l. bool_cases (ends_field b) (λ t. rw t) (λ f. rw f (omega arith))

pub length-field : (l : List ℕ) → length (field l) ≤ length l
unfolding field
length-field [] = omega arith
length-field (b ∷ l) = cond_cases (λ w. length w ≤ length (b ∷ l)) (ends_field b) [] (b ∷ field l) (λ t. omega arith) (λ f. omega (arith, length-field l))

-- the same where a part of a text was searched
module _ (s : List ℕ) (from : ℕ) (x : Option ℕ) (q : x ≡ position ends_field (take (length s - from) (drop from s))) where
  found : x ≡ position ends_field (drop from s)
  found = rw part_to_end at q

  pub field-found : (k : ℕ) → x ≡ Some k → from + k ≡ from + length (field (drop from s))
  field-found k e = rw (length-position, (position-at ends_field (drop from s) k (sym found ∙ e)).0)

  pub field-not-found : x ≡ None → from ≤ length s → length s ≡ from + length (field (drop from s))
  field-not-found e w =
      omega (
        arith,
        length-drop from s,
        length-field (drop from s),
        length-position (drop from s),
        position-nowhere ends_field (drop from s) (sym found ∙ e),
      )

-- the field is the text's first bytes, and what is behind it begins one byte behind it
pub field-take : (l : List ℕ) → field l ≡ take (length (field l)) l
unfolding field
field-take [] = refl
field-take (b ∷ l) = bool_cases (ends_field b) (λ t. rw t) (λ f. rw f (ap (λ w. b ∷ w) (field-take l)))

pub behind-drop : (l : List ℕ) → behind_field l ≡ drop (suc (length (field l))) l
unfolding field behind_field
behind-drop [] = refl
behind-drop (b ∷ l) = bool_cases (ends_field b) (λ t. rw t) (λ f. rw f (behind-drop l))

-- a field that begins at `from` and ends at `end`: the part between them, and what is behind it
module _ (s : List ℕ) (from end : ℕ) (q : end ≡ from + length (field (drop from s))) where
  pub field-within : from ≤ length s → end ≤ length s
  field-within w = omega (arith, length-field (drop from s), length-drop from s)

  pub field-part : (x : List ℕ) → field (drop from s) ≡ x → take (end - from) (drop from s) ≡ x
  field-part x e = let n : end - from ≡ length (field (drop from s)) = omega arith in rw (n, ← field-take) e

  pub behind-on : end < length s → Start (end + 1) (behind_field (drop from s)) s
  behind-on h = record {
    within = omega arith;
    begins = let e : end + 1 ≡ from + suc (length (field (drop from s))) = omega arith in
        rw (behind-drop (drop from s), drop-drop, e);
  }

  pub behind-end : from ≤ length s → length s ≤ end → Start end (behind_field (drop from s)) s
  behind-end w h = record {
    within = field-within w;
    begins = rw (behind-drop (drop from s), drop-drop, drop_of_length-le s h)
        (sym (drop_of_length-le s {i = from + suc (length (field (drop from s)))} (omega arith)));
  }

-- a line's field number k, of which the code has passed i fields
module _ (s : List ℕ) (k i at from : ℕ) (q : cell k (drop at s) ≡ cell (k - i) (drop from s)) where
  pub cell-next : (next : ℕ) → i < k → Start next (behind_field (drop from s)) s → cell k (drop at s) ≡ cell (k - (i + 1)) (drop next s)
  unfolding cell
  cell-next next h b =
      let e : k - i ≡ suc (k - (i + 1)) = omega arith in
      q ∙ rw (e, b.begins)

  pub cell-here : k ≤ i → field (drop from s) ≡ cell k (drop at s)
  unfolding cell
  cell-here h = let e : k - i ≡ 0 = omega arith in rw (q, e)

-- What is written as a line is read back, as a whole and field by field. Assumes nothing.
use Prim.Native.Nat.{ℕ, zero, suc, ◌+◌, ◌-◌, ◌<◌}
use mathlib.Core.Path.{◌≡◌, refl, ap, ◌∙◌}
use mathlib.Core.Bool.{true}
use mathlib.Core.List.{List, [], ◌∷◌, ◌++◌, append_assoc, append-nil}
use native.Mathlib.Omega.{arith}
use native.Mathlib.Nat.{add-zero}
use lib.ListN.{length, get_or, drop, length-append}
use borrow.Author.Tests.{ne_eqb}
use Rattle.std.specs.Prelude.{Some}
use Rattle.base.specs.Quoted.{comma, LF}
use Rattle.base.proofs.Tests.{and_left, and_right}
use Rattle.text.specs.Number.{cursor}
use Rattle.text.proofs.Bytes.{each_first, each-rest}
use Rattle.rows.specs.Field.{ends_field, field_byte, plain_field, field, behind_field, cell}
use Rattle.rows.specs.Line.{line_from, line_text, plain_fields}
use Rattle.rows.proofs.Plain.{field-byte-stays, field-byte-comma, field-byte-LF}

-- ---- past a text that can stand as a field

pub field_past : (w t : List ℕ) → plain_field w ≡ true → field (w ++ t) ≡ w ++ field t
unfolding field
field_past [] t h = refl
field_past (b ∷ w) t h =
    rw (field-byte-stays b (each_first field_byte b w h)) (ap (λ (l : List ℕ). b ∷ l) (field_past w t (each-rest field_byte b w h)))

pub behind-past : (w t : List ℕ) → plain_field w ≡ true → behind_field (w ++ t) ≡ behind_field t
unfolding behind_field
behind-past [] t h = refl
behind-past (b ∷ w) t h = rw (field-byte-stays b (each_first field_byte b w h)) (behind-past w t (each-rest field_byte b w h))

pub line-past : (commas p : ℕ) (w t : List ℕ) → plain_field w ≡ true → line_from commas p (w ++ t) ≡ line_from commas (p + length w) t
unfolding line_from
line-past commas p [] t h = rw add-zero
line-past commas p (b ∷ w) t h =
    let f : field_byte b ≡ true = each_first field_byte b w h in
    let e : p + 1 + length w ≡ p + length (b ∷ w) = omega arith in
    rw (field-byte-LF b f, field-byte-comma b f) (line-past commas (p + 1) w t (each-rest field_byte b w h) ∙ rw e)

pub comma-past : (commas p : ℕ) (t : List ℕ) → line_from (suc commas) p (comma ∷ t) ≡ line_from commas (p + 1) t
unfolding line_from
comma-past commas p t =
    let e : suc commas - 1 ≡ commas = omega arith in
    rw (ne_eqb (suc commas) 0 (λ z. omega arith), e)

-- ---- a line's fields, and the text behind the line

module _ (rest : List ℕ) where
  last-text : (w : List ℕ) → line_text (w ∷ []) ++ rest ≡ w ++ (LF ∷ rest)
  unfolding line_text
  last-text w = append_assoc w (LF ∷ []) rest

  more-text : (w v : List ℕ) (ws : List (List ℕ)) → line_text (w ∷ v ∷ ws) ++ rest ≡ w ++ (comma ∷ (line_text (v ∷ ws) ++ rest))
  unfolding line_text
  more-text w v ws = append_assoc w (comma ∷ line_text (v ∷ ws)) rest

  pub line-back : (p : ℕ) (w : List ℕ) (ws : List (List ℕ)) → plain_fields (w ∷ ws) ≡ true
      → line_from (length ws) p (line_text (w ∷ ws) ++ rest) ≡ Some (cursor (p + length (line_text (w ∷ ws))))
  unfolding line_from line_text plain_fields
  line-back p w [] h =
      let e : p + length w + 1 ≡ p + length (w ++ LF ∷ []) = omega (arith, length-append w (LF ∷ [])) in
      rw (last-text w) (line-past 0 p w (LF ∷ rest) (and_left (plain_field w) _ h) ∙ ap (λ (q : ℕ). Some (cursor q)) e)
  line-back p w (v ∷ ws) h =
      let e : p + length w + 1 + length (line_text (v ∷ ws)) ≡ p + length (w ++ comma ∷ line_text (v ∷ ws)) =
      omega (arith, length-append w (comma ∷ line_text (v ∷ ws))) in
      rw (more-text w v ws)
      (line-past (suc (length ws)) p w _ (and_left (plain_field w) _ h)
      ∙ (comma-past (length ws) (p + length w) (line_text (v ∷ ws) ++ rest)
      ∙ (line-back (p + length w + 1) v ws (and_right (plain_field w) _ h) ∙ ap (λ (q : ℕ). Some (cursor q)) e)))

  pub cell-back : (k : ℕ) (ws : List (List ℕ)) → plain_fields ws ≡ true → k < length ws → cell k (line_text ws ++ rest) ≡ get_or ws k []
  unfolding cell plain_fields field behind_field ends_field
  cell-back k [] h o = absurd (omega arith)
  cell-back zero (w ∷ []) h o = rw (last-text w, field_past w (LF ∷ rest) (and_left (plain_field w) _ h)) (append-nil w)
  cell-back (suc k) (w ∷ []) h o = absurd (omega arith)
  cell-back zero (w ∷ v ∷ ws) h o = rw (more-text w v ws, field_past w _ (and_left (plain_field w) _ h)) (append-nil w)
  cell-back (suc k) (w ∷ v ∷ ws) h o =
      rw (more-text w v ws, behind-past w _ (and_left (plain_field w) _ h)) (cell-back k (v ∷ ws) (and_right (plain_field w) _ h) (omega arith))

-- a line that stands in a text. What is behind it begins where `drop_past` of the crate text says
module _ (s : List ℕ) (at : ℕ) (w : List ℕ) (ws : List (List ℕ)) (rest : List ℕ)
    (e : drop at s ≡ line_text (w ∷ ws) ++ rest) (h : plain_fields (w ∷ ws) ≡ true) where
  pub line-stands : line_from (length ws) at (drop at s) ≡ Some (cursor (at + length (line_text (w ∷ ws))))
  line-stands = rw e (line-back rest at w ws h)

  pub cell-stands : (k : ℕ) → k < length (w ∷ ws) → cell k (drop at s) ≡ get_or (w ∷ ws) k []
  cell-stands k o = rw e (cell-back rest k (w ∷ ws) h o)

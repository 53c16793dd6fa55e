-- An empty line is a line of one field, which is empty: what the reader of lines and the reader of fields say of it. Assumes nothing.
use Prim.Native.Nat.{ℕ, ◌+◌}
use mathlib.Core.Path.{◌≡◌, refl, sym, ap, ◌∙◌}
use mathlib.Core.Bool.{Bool, true, false, true≢false}
use mathlib.Core.List.{List, [], ◌∷◌}
use native.Mathlib.Omega.{arith}
use lib.Dec.{eqb}
use lib.ListN.{drop, get_or}
use lib.Seq.{get_or-drop}
use Rattle.std.specs.Prelude.{Option, Some, None, is_some}
use Rattle.base.specs.Quoted.{comma, LF}
use Rattle.base.proofs.Tests.{bool_cases}
use Rattle.text.specs.declared.cursor.Cursor.{Cursor}
use Rattle.rows.specs.Field.{ends_field, field, cell, is_empty}
use Rattle.rows.specs.Line.{line_from}
use Rattle.manifest.specs.Package.{is_empty_line}

-- ---- of the bytes from a position on

no_line : (l : List ℕ) (p : ℕ) → line_from 0 p l ≡ None → eqb (get_or l 0 0) LF ≡ false
unfolding line_from
no_line [] p e = refl
no_line (b ∷ l) p e = bool_cases (eqb b LF) (λ t. absurd (ends b l t e)) (λ f. f)
  where
    ends : (b : ℕ) (l : List ℕ) → eqb b LF ≡ true → line_from 0 p (b ∷ l) ≡ None → ⊥
    ends b l t e = let h : ◌≡◌ {A = Option Cursor} (Some (record { at = p + 1 })) None = rw t at e in let z : ◌≡◌ {A = ℕ} 0 1 = cc in omega arith

one_field : (l : List ℕ) (p : ℕ) (next : Cursor) → line_from 0 p l ≡ Some next → is_empty (cell 0 l) ≡ eqb (get_or l 0 0) LF
unfolding line_from cell field ends_field
one_field [] p next e = absurd (let z : ◌≡◌ {A = ℕ} 0 1 = cc in omega arith)
one_field (b ∷ l) p next e =
    bool_cases (eqb b LF) (λ t. bool_cases (eqb b comma) (λ c. rw (c, t)) (λ c. rw (c, t)))
    λ f. bool_cases (eqb b comma)
    (λ c. absurd (let h : None ≡ Some next = rw (f, c) at e in let z : ◌≡◌ {A = ℕ} 0 1 = cc in omega arith))
    (λ c. rw (c, f))

-- ---- of a position in a text: x and r are what the two readers answer

module _ (s : List ℕ) (at : ℕ) (x : Option Cursor) (e : x ≡ line_from 0 at (drop at s)) where
  first : get_or (drop at s) 0 0 ≡ get_or s at 0
  first = get_or-drop at s 0 0 ∙ ap (λ (k : ℕ). get_or s k 0) (omega arith)

  -- t is whether there is such a line
  module _ (t : Bool) (told : t ≡ is_some x) where
    pub not-one-field : t ≡ false → t ≡ is_empty_line s at
    not-one-field h = h ∙ sym (ap (λ (b : ℕ). eqb b LF) (sym first) ∙ no_line (drop at s) at (sym e ∙ none x (sym told ∙ h)))
      where
        none : (y : Option Cursor) → is_some y ≡ false → y ≡ None
        none None f = refl
        none (Some next) f = let z : ◌≡◌ {A = Bool} true false = cc in absurd (true≢false z)

    pub one-empty-field : t ≡ true → (r : Bool) → r ≡ is_empty (cell 0 (drop at s)) → r ≡ is_empty_line s at
    one-empty-field h r f = f ∙ given x (sym told ∙ h) e ∙ ap (λ (b : ℕ). eqb b LF) first
      where
        given : (y : Option Cursor) → is_some y ≡ true → y ≡ line_from 0 at (drop at s)
            → is_empty (cell 0 (drop at s)) ≡ eqb (get_or (drop at s) 0 0) LF
        given None f q = let z : ◌≡◌ {A = Bool} true false = cc in absurd (true≢false z)
        given (Some next) f q = one_field (drop at s) at next (sym q)

-- How many bytes a line has: those of its fields, its commas and its LF. Assumes nothing.
use Prim.Native.Nat.{ℕ, suc, ◌+◌, ◌-◌}
use mathlib.Core.Path.{◌≡◌, refl, ap, ◌∙◌}
use mathlib.Core.Bool.{Bool, true, false, cond, ◌&&◌}
use mathlib.Core.List.{List, [], ◌∷◌}
use native.Mathlib.Omega.{arith}
use lib.Dec.{eqb}
use lib.ListN.{length}
use borrow.Author.Tests.{eqb-true, eqb-false}
use Rattle.std.specs.Prelude.{Option, Some, None}
use Rattle.base.specs.Quoted.{comma, LF}
use Rattle.base.proofs.Tests.{cond_cases}
use Rattle.text.specs.declared.cursor.Cursor.{Cursor}
use Rattle.rows.specs.Field.{ends_field, field, behind_field, cell}
use Rattle.rows.specs.Line.{line_from}
use Rattle.rows.proofs.Totals.{total_below}

-- the bytes of the first fields of a line
abbrev pub fields_bytes : ℕ → List ℕ → ℕ
fields_bytes fields l = total_below fields (λ k. length (cell k l))

module _ (b : ℕ) (l : List ℕ) where
  bytes_on : (commas : ℕ) → ends_field b ≡ false → fields_bytes (suc commas) (b ∷ l) ≡ suc (fields_bytes (suc commas) l)
  unfolding cell field behind_field
  bytes_on commas e = rw e (omega arith)

  bytes-comma : (commas : ℕ) → ends_field b ≡ true → fields_bytes (suc (suc commas)) (b ∷ l) ≡ fields_bytes (suc commas) l
  unfolding cell field behind_field
  bytes-comma commas e = rw e (omega arith)

  bytes-last : ends_field b ≡ true → fields_bytes 1 (b ∷ l) ≡ 0
  unfolding cell field
  bytes-last e = rw e (omega arith)

-- a line that ends where its fields, its commas and its LF end
abbrev EndsBehind : ℕ → ℕ → List ℕ → Option Cursor → Type 0
EndsBehind commas p l (Some next) = next.at ≡ p + fields_bytes (suc commas) l + commas + 1
EndsBehind commas p l None = Unit {0}

ends-shifted : (commas p : ℕ) (l : List ℕ) (commas' p' : ℕ) (l' : List ℕ) (x : Option Cursor)
    → p' + fields_bytes (suc commas') l' + commas' ≡ p + fields_bytes (suc commas) l + commas → EndsBehind commas' p' l' x → EndsBehind commas p l x
ends-shifted commas p l commas' p' l' (Some next) e w = omega arith
ends-shifted commas p l commas' p' l' None e w = tt

comma-ends : (b : ℕ) → eqb b comma ≡ true → ends_field b ≡ true
unfolding ends_field
comma-ends b e = rw e

LF-ends : (b : ℕ) → b ≡ LF → ends_field b ≡ true
unfolding ends_field
LF-ends b e = rw e

no_end : (b : ℕ) → eqb b comma ≡ false → eqb b LF ≡ false → ends_field b ≡ false
unfolding ends_field
no_end b e f = rw (e, f)

line-ends-behind : (commas p : ℕ) (l : List ℕ) → EndsBehind commas p l (line_from commas p l)
unfolding line_from
line-ends-behind commas p [] = tt
line-ends-behind commas p (b ∷ l) =
    cond_cases (EndsBehind commas p (b ∷ l)) (eqb b LF) _ _
    (λ f. cond_cases (EndsBehind commas p (b ∷ l)) (eqb commas 0) _ _
    (λ z. let none : commas ≡ 0 = eqb-true commas 0 z in
    rw none (omega (arith, bytes-last b l (LF-ends b (eqb-true b LF f)))))
    (λ _. tt))
    (λ f. cond_cases (EndsBehind commas p (b ∷ l)) (eqb b comma && eqb commas 0) _ _
    (λ _. tt)
    (λ z. goes_on (eqb b comma) refl f z λ left. line-ends-behind left (p + 1) l))
  where
    goes_on : (t : Bool) → eqb b comma ≡ t → eqb b LF ≡ false → t && eqb commas 0 ≡ false
        → ((left : ℕ) → EndsBehind left (p + 1) l (line_from left (p + 1) l))
        → EndsBehind commas p (b ∷ l) (line_from (cond t (commas - 1) commas) (p + 1) l)
    goes_on true e f z ih =
        let some : commas ≡ 0 → ⊥ = eqb-false commas 0 z in
        let less : commas ≡ suc (commas - 1) = omega arith in
        let first : fields_bytes (suc commas) (b ∷ l) ≡ fields_bytes (suc (commas - 1)) l =
        ap (λ (k : ℕ). fields_bytes (suc k) (b ∷ l)) less ∙ bytes-comma b l (commas - 1) (comma-ends b e) in
        ends-shifted commas p (b ∷ l) (commas - 1) (p + 1) l (line_from (commas - 1) (p + 1) l) (omega arith) (ih (commas - 1))
    goes_on false e f z ih =
        ends-shifted commas p (b ∷ l) commas (p + 1) l (line_from commas (p + 1) l) (omega (arith, bytes_on b l commas (no_end b e f))) (ih commas)

pub line-bytes : (commas p : ℕ) (l : List ℕ) (next : Cursor) → line_from commas p l ≡ Some next → next.at ≡ p + fields_bytes (suc commas) l + commas + 1
line-bytes commas p l next e = rw e at (line-ends-behind commas p l)

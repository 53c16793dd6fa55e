-- Where a line ends: behind its beginning, and within the text. Assumes nothing.
use Prim.Native.Nat.{ℕ, ◌+◌, ◌-◌, ◌≤◌, ◌<◌}
use mathlib.Core.Path.{◌≡◌, sym, ◌∙◌}
use mathlib.Core.Bool.{cond, ◌&&◌}
use mathlib.Core.List.{List, [], ◌∷◌}
use native.Mathlib.Omega.{arith}
use lib.Dec.{eqb}
use lib.ListN.{length, drop, length-drop}
use Rattle.std.specs.Prelude.{Option, Some, None}
use Rattle.base.specs.Quoted.{comma, LF}
use Rattle.base.proofs.Tests.{cond_cases}
use Rattle.text.specs.declared.cursor.Cursor.{Cursor}
use Rattle.rows.specs.Line.{line_from}

-- a line that ends behind p and at most at e
abbrev EndsIn : ℕ → ℕ → Option Cursor → Type 0
EndsIn p e (Some next) = (p < next.at) × (next.at ≤ e)
EndsIn p e None = Unit {0}

ends-later : (p e : ℕ) (x : Option Cursor) → EndsIn (p + 1) e x → EndsIn p e x
ends-later p e (Some next) w = (omega (arith, w.0), w.1)
ends-later p e None w = tt

line-ends-in : (commas p e : ℕ) (l : List ℕ) → p + length l ≤ e → EndsIn p e (line_from commas p l)
unfolding line_from
line-ends-in commas p e [] o = tt
line-ends-in commas p e (b ∷ l) o =
    cond_cases (EndsIn p e) (eqb b LF) _ _
    (λ _. cond_cases (EndsIn p e) (eqb commas 0) _ _ (λ _. (omega arith, omega arith)) (λ _. tt))
    (λ _. cond_cases (EndsIn p e) (eqb b comma && eqb commas 0) _ _
    (λ _. tt)
    (λ _. let left = cond (eqb b comma) (commas - 1) commas in
    ends-later p e (line_from left (p + 1) l) (line-ends-in left (p + 1) e l (omega arith))))

module _ (commas p : ℕ) (l : List ℕ) (next : Cursor) (h : line_from commas p l ≡ Some next) where
  ended : EndsIn p (p + length l) (Some next)
  ended = rw h at (line-ends-in commas p (p + length l) l (omega arith))

  pub line_after : p < next.at
  line_after = ended.0

  pub line-inside : next.at ≤ p + length l
  line-inside = ended.1

-- the same of a line at a position of a text, of which a call told x
module _ (s : List ℕ) (commas at : ℕ) (x : Option Cursor) (next : Cursor) (e : x ≡ line_from commas at (drop at s)) (h : x ≡ Some next) where
  found : line_from commas at (drop at s) ≡ Some next
  found = sym e ∙ h

  pub line-at-after : at < next.at
  line-at-after = line_after commas at (drop at s) next found

  pub line-at-inside : next.at ≤ length s
  line-at-inside =
      omega (arith, line-inside commas at (drop at s) next found, line_after commas at (drop at s) next found, length-drop at s)

-- Examples in a table, a row each: what is given, and what comes of it. A table is computed whole, by one `refl`. Also texts of
-- several lines. Assumes nothing.
use Prim.Native.Nat.{ℕ}
use Prim.Native.String.{String}
use mathlib.Core.Path.{◌≡◌}
use mathlib.Core.List.{List, [], ◌∷◌, ◌++◌, map}
use Rattle.base.specs.Quoted.{bytes, LF}

pub record Example (A B : Type 0) : Type 0 where
  pub given : A
  pub expected : B

infix 70 ◌gives◌
abbrev pub ◌gives◌ : {A B : Type 0} → A → B → Example A B
a gives b = record { given = a; expected = b }

-- every row of the table holds
abbrev pub AllHold : {A B : Type 0} → (A → B) → List (Example A B) → Type 0
AllHold f examples = map (λ e. f e.given) examples ≡ map (λ e. e.expected) examples

-- a text of lines, each ended by LF
abbrev pub in_lines : List String → List ℕ
in_lines [] = []
in_lines (line ∷ rest) = bytes line ++ LF ∷ in_lines rest

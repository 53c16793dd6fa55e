-- What the names line's columns mean: a column is one of the line's fields and that field is its name, so different names have
-- different columns. Assumes nothing.
use Prim.Native.Nat.{ℕ, zero, suc, ◌+◌, ◌≤◌, ◌<◌}
use mathlib.Core.Path.{◌≡◌, sym, ◌∙◌}
use mathlib.Core.List.{List}
use native.Mathlib.Omega.{arith}
use Rattle.std.specs.Prelude.{Option, Some, None}
use Rattle.base.proofs.Tests.{cond_cases}
use Rattle.text.specs.Word.{same_bytes}
use Rattle.text.proofs.WordLaws.{same-bytes-equal}
use Rattle.rows.specs.Field.{cell}
use Rattle.rows.specs.Columns.{column_from}

-- a column below e whose field is the name
abbrev Names : ℕ → List ℕ → List ℕ → Option ℕ → Type 0
Names e name l (Some j) = (j < e) × (cell j l ≡ name)
Names e name l None = Unit {0}

column-names : (fields k e : ℕ) (name l : List ℕ) → k + fields ≤ e → Names e name l (column_from fields k name l)
unfolding column_from
column-names zero k e name l o = tt
column-names (suc fields) k e name l o =
    cond_cases (Names e name l) (same_bytes (cell k l) name) _ _
    (λ t. (omega arith, same-bytes-equal (cell k l) name t))
    (λ _. column-names fields (k + 1) e name l (omega arith))

module _ (fields j : ℕ) (name l : List ℕ) (h : column_from fields 0 name l ≡ Some j) where
  column : Names fields name l (Some j)
  column = rw h at (column-names fields 0 fields name l (omega arith))

  pub column-below : j < fields
  column-below = column.0

  pub column-cell : cell j l ≡ name
  column-cell = column.1

pub column-one-name : (fields i j : ℕ) (name other l : List ℕ) → column_from fields 0 name l ≡ Some i → column_from fields 0 other l ≡ Some j
    → i ≡ j → name ≡ other
column-one-name fields i j name other l f g e =
    sym (column-cell fields i name l f) ∙ rw e (column-cell fields j other l g)

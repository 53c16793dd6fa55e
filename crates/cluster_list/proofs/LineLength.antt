-- How many bytes a line of the list has: those of its four or five fields, its commas and LF, in whichever order the columns stand. So
-- the names line has 28 or 34. Assumes nothing.
use Prim.Native.Nat.{ℕ, ◌+◌, ◌≤◌}
use mathlib.Core.Path.{◌≡◌, refl, sym, subst}
use mathlib.Core.List.{List, [], ◌∷◌}
use native.Mathlib.Omega.{arith}
use lib.ListN.{length}
use Rattle.std.specs.Prelude.{Option, Some, None}
use Rattle.text.specs.declared.cursor.Cursor.{Cursor}
use Rattle.rows.specs.declared.columns.ClusterColumns.{ClusterColumns}
use Rattle.rows.specs.declared.list_columns.ListColumns.{ListColumns}
use Rattle.rows.specs.Field.{cell}
use Rattle.rows.specs.Line.{line_from}
use Rattle.rows.proofs.ColumnMeaning.{column-cell}
use Rattle.rows.proofs.LineBytes.{line-bytes}
use Rattle.rows.proofs.NamesOnce.{Placed, none, more, ListPlaced, four, five, cluster-names-differ, list-names-differ, all-columns}
use Rattle.rows.proofs.Totals.{total_of}
use Rattle.cluster_list.specs.Mark.{commas_of}

-- the bytes of the four fields of a line, and of the line: with three commas, or the mark's field and four commas, and LF
abbrev pub four_length : ClusterColumns → List ℕ → ℕ
four_length columns l =
    length (cell columns.cluster l) + length (cell columns.version l) + (length (cell columns.needs l) + length (cell columns.least l))

abbrev pub row_length : ClusterColumns → Option ℕ → List ℕ → ℕ
row_length columns None l = four_length columns l + 4
row_length columns (Some stays) l = four_length columns l + length (cell stays l) + 5

-- the columns are those of the names line s
module _ (s : List ℕ) (columns : ListColumns) (names : Cursor) where
  pub row-bytes : ListPlaced s columns names → (l : List ℕ) (p : ℕ) (next : Cursor) → line_from (commas_of columns.stays) p l ≡ Some next
      → next.at ≡ p + row_length columns.cluster_columns columns.stays l
  row-bytes found l p next = go found
    where
      EndsRow : Option ℕ → Type 0
      EndsRow stays = line_from (commas_of stays) p l ≡ Some next → next.at ≡ p + row_length columns.cluster_columns stays l

      go : ListPlaced s columns names → EndsRow columns.stays
      go (four e missing placed) =
          subst EndsRow (sym missing) λ f. omega (arith, line-bytes 3 p l next f, all-columns placed cluster-names-differ (λ k. length (cell k l)))
      go (five stays e there placed) =
          subst EndsRow (sym there) λ f. omega (arith, line-bytes 4 p l next f, all-columns placed list-names-differ (λ k. length (cell k l)))

-- the names have the same bytes in whichever order they stand
abbrev bytes_of : List (List ℕ) → ℕ
bytes_of [] = 0
bytes_of (name ∷ names) = length name + bytes_of names

placed-bytes : {fields : ℕ} {s : List ℕ} {names : List (List ℕ)} {ks : List ℕ} → Placed fields s names ks
    → total_of (λ k. length (cell k s)) ks ≡ bytes_of names
placed-bytes none = refl
placed-bytes {fields = fields} {s = s} (more {name = name} {k = k} e rest) = rw (column-cell fields k name s e, placed-bytes rest)

pub names-most : (s : List ℕ) (columns : ListColumns) (next : Cursor) → ListPlaced s columns next → next.at ≤ 34
names-most s columns next (four e missing placed) =
    omega (arith, line-bytes 3 0 s next e, all-columns placed cluster-names-differ (λ k. length (cell k s)), placed-bytes placed)
names-most s columns next (five stays e there placed) =
    omega (arith, line-bytes 4 0 s next e, all-columns placed list-names-differ (λ k. length (cell k s)), placed-bytes placed)

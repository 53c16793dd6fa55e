-- "each once, in any order": in a line with as many fields as there are names, and each name among them, a name stands as often as it is
-- in the list of names. The four or five names of a cluster list and the seven of a package are each in theirs once. Assumes nothing.
use Prim.Native.Nat.{ℕ, zero, suc, ◌≤◌}
use mathlib.Core.Path.{◌≡◌, refl, sym, subst, ◌∙◌}
use mathlib.Core.Bool.{Bool, true, cond, ◌&&◌}
use mathlib.Core.List.{List, [], ◌∷◌}
use native.Mathlib.Omega.{arith}
use lib.Dec.{eqb}
use lib.ListN.{length}
use borrow.Author.Tests.{eqb-true}
use Rattle.std.specs.Prelude.{Option, Some, None}
use Rattle.base.specs.Quoted.{bytes}
use Rattle.base.proofs.Tests.{and_left, and_right, bool_cases}
use Rattle.text.specs.declared.cursor.Cursor.{Cursor}
use Rattle.text.specs.Word.{same_bytes}
use Rattle.text.proofs.ThenLaws.{then-cases-some}
use Rattle.text.proofs.WordLaws.{same-bytes-self}
use Rattle.rows.specs.declared.list_columns.ListColumns.{ListColumns}
use Rattle.rows.specs.declared.columns.ClusterColumns.{ClusterColumns}
use Rattle.rows.specs.declared.columns.PackageColumns.{PackageColumns}
use Rattle.rows.specs.Field.{behind_field, cell}
use Rattle.rows.specs.Line.{line_from}
use Rattle.rows.specs.Columns.{column_from, cluster_columns, package_columns}
use Rattle.rows.specs.ListColumns.{four_columns, five_columns, list_columns}
use Rattle.rows.specs.Names.{cluster_names, list_names, package_names, times_named, times_in}
use Rattle.rows.proofs.ColumnMeaning.{column-below, column-cell}
use Rattle.rows.proofs.Totals.{total_of, total_below, mark_at, NoneTwice, EachBelow, all-places}

-- no name is twice in the list
unfoldable pub different : List (List ℕ) → Bool
different [] = true
different (name ∷ names) = eqb (times_in name names) 0 && different names

-- the columns of names, each found among so many fields of a line
pub data Placed (fields : ℕ) (l : List ℕ) : List (List ℕ) → List ℕ → Type 0 where
  none : Placed fields l [] []
  more : {name : List ℕ} {k : ℕ} {names : List (List ℕ)} {ks : List ℕ} → column_from fields 0 name l ≡ Some k → Placed fields l names ks
      → Placed fields l (name ∷ names) (k ∷ ks)

module _ {fields : ℕ} {l : List ℕ} where
  placed_below : {names : List (List ℕ)} {ks : List ℕ} → Placed fields l names ks → EachBelow fields ks
  placed_below none = tt
  placed_below (more {name = name} {k = k} e rest) = (column-below fields k name l e, placed_below rest)

  placed-count : {names : List (List ℕ)} {ks : List ℕ} → Placed fields l names ks → total_of (λ _. 1) ks ≡ length names
  placed-count none = refl
  placed-count (more e rest) = omega (arith, placed-count rest)

  -- a column is found at most as often as its name
  column-times : (k : ℕ) {names : List (List ℕ)} {ks : List ℕ} → Placed fields l names ks → total_of (mark_at k) ks ≤ times_in (cell k l) names
  unfolding times_in
  column-times k none = omega arith
  column-times k (more {name = other} {k = j} e rest) =
      bool_cases (eqb k j)
      (λ t. let same : same_bytes other (cell k l) ≡ true =
      rw (eqb-true k j t, column-cell fields j other l e) (same-bytes-self other) in
      rw (t, same) (omega (arith, column-times k rest)))
      (λ t. rw t (omega (arith, column-times k rest)))

  placed-none-twice : {names : List (List ℕ)} {ks : List ℕ} → Placed fields l names ks → different names ≡ true → NoneTwice ks
  unfolding different
  placed-none-twice none h = tt
  placed-none-twice (more {name = name} {k = k} {names = names} e rest) h =
      let zero-times : times_in name names ≡ 0 = eqb-true _ _ (and_left _ (different names) h) in
      (omega (arith, rw (column-cell fields k name l e) at (column-times k rest)), placed-none-twice rest (and_right (eqb (times_in name names) 0) _ h))

  placed-times : (name : List ℕ) {names : List (List ℕ)} {ks : List ℕ} → Placed fields l names ks
      → total_of (λ k. cond (same_bytes (cell k l) name) 1 0) ks ≡ times_in name names
  unfolding times_in
  placed-times name none = refl
  placed-times name (more {name = other} {k = k} e rest) = rw (column-cell fields k other l e, placed-times name rest)

times_below : (fields : ℕ) (name l : List ℕ) → times_named fields name l ≡ total_below fields (λ k. cond (same_bytes (cell k l) name) 1 0)
unfolding times_named cell
times_below zero name l = refl
times_below (suc fields) name l = rw (times_below fields name (behind_field l))

module _ {l : List ℕ} {names : List (List ℕ)} {ks : List ℕ} (found : Placed (length names) l names ks) (apart : different names ≡ true) where
  -- the columns are all of the line's fields
  pub all-columns : (f : ℕ → ℕ) → total_of f ks ≡ total_below (length names) f
  all-columns = all-places (length names) ks (placed-count found) (placed_below found) (placed-none-twice found apart)

  -- a name stands in the line as often as it is in the list of names
  pub as-often : (name : List ℕ) → times_named (length names) name l ≡ times_in name names
  as-often name = times_below (length names) name l ∙ sym (all-columns _) ∙ placed-times name found

-- ---- the four names of a cluster list, among so many fields

abbrev pub cluster_places : ClusterColumns → List ℕ
cluster_places c = c.cluster ∷ c.version ∷ c.needs ∷ c.least ∷ []

-- the places of the five names
abbrev pub list_places : ClusterColumns → ℕ → List ℕ
list_places c stays = c.cluster ∷ c.version ∷ c.needs ∷ c.least ∷ stays ∷ []

abbrev ClusterPlaced : ℕ → List ℕ → Option ClusterColumns → Type 0
ClusterPlaced fields l (Some c) = Placed fields l cluster_names (cluster_places c)
ClusterPlaced fields l None = Unit {0}

cluster-columns-placed : (fields : ℕ) (l : List ℕ) → ClusterPlaced fields l (cluster_columns fields l)
unfolding cluster_columns
cluster-columns-placed fields l =
    then-cases-some (ClusterPlaced fields l) None (column_from fields 0 (bytes "cluster") l) _ tt λ cluster e₁.
    then-cases-some (ClusterPlaced fields l) None (column_from fields 0 (bytes "version") l) _ tt λ version e₂.
    then-cases-some (ClusterPlaced fields l) None (column_from fields 0 (bytes "needs") l) _ tt λ needs e₃.
    then-cases-some (ClusterPlaced fields l) None (column_from fields 0 (bytes "least") l) _ tt λ least e₄.
    more e₁ (more e₂ (more e₃ (more e₄ none)))

pub cluster-placed : (fields : ℕ) (l : List ℕ) (c : ClusterColumns) → cluster_columns fields l ≡ Some c → Placed fields l cluster_names (cluster_places c)
cluster-placed fields l c e = subst (ClusterPlaced fields l) e (cluster-columns-placed fields l)

pub cluster-names-differ : different cluster_names ≡ true
unfolding different times_in same_bytes
cluster-names-differ = refl

pub cluster-names-once : (l : List ℕ) (c : ClusterColumns) → cluster_columns 4 l ≡ Some c
    → (name : List ℕ) → times_named 4 name l ≡ times_in name cluster_names
cluster-names-once l c e = as-often (cluster-placed 4 l c e) cluster-names-differ

-- ---- the names line of a cluster list

-- it has four fields and the four names, or five fields and the five names
pub data ListPlaced (l : List ℕ) (columns : ListColumns) (next : Cursor) : Type 0 where
  four : line_from 3 0 l ≡ Some next → columns.stays ≡ None → Placed 4 l cluster_names (cluster_places columns.cluster_columns)
      → ListPlaced l columns next
  five : (stays : ℕ) → line_from 4 0 l ≡ Some next → columns.stays ≡ Some stays
      → Placed 5 l list_names (list_places columns.cluster_columns stays) → ListPlaced l columns next

abbrev ListRead : List ℕ → Option (ListColumns × Cursor) → Type 0
ListRead l (Some (columns, next)) = ListPlaced l columns next
ListRead l None = Unit {0}

list-columns-placed : (l : List ℕ) → ListRead l (list_columns l)
unfolding list_columns four_columns five_columns
list-columns-placed l =
    then-cases-some (ListRead l) _ (line_from 3 0 l) _
    (then-cases-some (ListRead l) None (line_from 4 0 l) _ tt λ next e.
    then-cases-some (ListRead l) None (cluster_columns 5 l) _ tt λ c named.
    then-cases-some (ListRead l) None (column_from 5 0 (bytes "stays") l) _ tt λ stays marked.
    five stays e refl (behind marked (cluster-placed 5 l c named)))
    λ next e.
    then-cases-some (ListRead l) None (cluster_columns 4 l) _ tt λ c named.
    four e refl (cluster-placed 4 l c named)
  where
    behind : {stays cluster version needs least : ℕ} → column_from 5 0 (bytes "stays") l ≡ Some stays
        → Placed 5 l cluster_names (cluster ∷ version ∷ needs ∷ least ∷ []) → Placed 5 l list_names (cluster ∷ version ∷ needs ∷ least ∷ stays ∷ [])
    behind e (more c (more v (more n (more least rest)))) = more c (more v (more n (more least (more e none))))

pub list-placed : (l : List ℕ) (columns : ListColumns) (next : Cursor) → list_columns l ≡ Some (columns, next) → ListPlaced l columns next
list-placed l columns next e = subst (ListRead l) e (list-columns-placed l)

pub list-names-differ : different list_names ≡ true
unfolding different times_in same_bytes
list-names-differ = refl

-- a names line of five fields has each of the five names once
pub list-names-once : (l : List ℕ) (c : ClusterColumns) (stays : ℕ) → Placed 5 l list_names (list_places c stays)
    → (name : List ℕ) → times_named 5 name l ≡ times_in name list_names
list-names-once l c stays found = as-often found list-names-differ

-- ---- the seven names of a package

abbrev PackagePlaced : List ℕ → Option PackageColumns → Type 0
PackagePlaced l (Some c) = Placed 7 l package_names
    (c.action ∷ c.cluster_columns.cluster ∷ c.cluster_columns.version ∷ c.payload ∷ c.sum ∷ c.cluster_columns.needs ∷ c.cluster_columns.least ∷ [])
PackagePlaced l None = Unit {0}

package-placed : (l : List ℕ) → PackagePlaced l (package_columns 7 l)
unfolding package_columns
package-placed l =
    then-cases-some (PackagePlaced l) None (cluster_columns 7 l) _ tt λ c e.
    then-cases-some (PackagePlaced l) None (column_from 7 0 (bytes "action") l) _ tt λ action e₁.
    then-cases-some (PackagePlaced l) None (column_from 7 0 (bytes "payload") l) _ tt λ payload e₂.
    then-cases-some (PackagePlaced l) None (column_from 7 0 (bytes "sum") l) _ tt λ sum e₃.
    among e₁ e₂ e₃ (cluster-placed 7 l c e)
  where
    among : {action payload sum cluster version needs least : ℕ} → column_from 7 0 (bytes "action") l ≡ Some action → column_from 7 0 (bytes "payload") l ≡ Some payload
        → column_from 7 0 (bytes "sum") l ≡ Some sum → Placed 7 l cluster_names (cluster ∷ version ∷ needs ∷ least ∷ [])
        → Placed 7 l package_names (action ∷ cluster ∷ version ∷ payload ∷ sum ∷ needs ∷ least ∷ [])
    among a p s (more c (more v (more n (more least rest)))) = more a (more c (more v (more p (more s (more n (more least none))))))

package-names-differ : different package_names ≡ true
unfolding different times_in same_bytes
package-names-differ = refl

pub package-names-once : (l : List ℕ) (c : PackageColumns) → package_columns 7 l ≡ Some c
    → (name : List ℕ) → times_named 7 name l ≡ times_in name package_names
package-names-once l c e = as-often (subst (PackagePlaced l) e (package-placed l)) package-names-differ

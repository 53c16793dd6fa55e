-- What is found in the columns of a table is what is found in the table, and how a loop fills a column. Assumes nothing.
use Prim.Native.Nat.{ℕ, ◌+◌, ◌<◌}
use mathlib.Core.Path.{◌≡◌, refl, sym, ap, ◌∙◌}
use mathlib.Core.Bool.{Bool}
use mathlib.Core.List.{List, [], ◌∷◌, map, map-append}
use mathlib.Core.Option.{none, some}
use native.Mathlib.Numerals.{add-one}
use native.Mathlib.Omega.{arith}
use lib.Dec.{eqb}
use lib.ListN.{length, take, get_or, set, length-take, get_or-map}
use lib.Seq.{get_or-take, take-suc, take-suc-set}
use Rattle.text.specs.declared.version.Version.{Version}
use Rattle.std.specs.Prelude.{None, Some}
use Rattle.place_in_list.proofs.Placed.{place-in-map, placed-in}
use Rattle.clusters.specs.declared.columns.Columns.{Columns}
use Rattle.clusters.specs.Cluster.{Cluster, marked_cluster}
use Rattle.clusters.specs.Table.{Table, find}
use Rattle.clusters.specs.Place.{place_among, part_of, place_of}
use Rattle.clusters.specs.Columns.{version_of, mark_of, ColumnsOf}
use Rattle.clusters.proofs.Placing.{place-says, nothing-found}

-- ---- a column that a loop fills: one element more

pub fill_step : {A B : Type 0} (f : A → B) (xs : List A) (ys : List B) (i : ℕ) (d : A) → i < length xs → i < length ys → take i ys ≡ map f (take i xs)
    → take (i + 1) (set ys i (f (get_or xs i d))) ≡ map f (take (i + 1) xs)
fill_step f xs ys i d h l e =
    rw (add-one i, take-suc-set ys i (f (get_or xs i d)) l, take-suc xs i d h, map-append f (take i xs) (get_or xs i d ∷ []), e)

pub map-twice : {A B C : Type 0} (f : A → B) (g : B → C) (xs : List A) → map g (map f xs) ≡ map (λ x. g (f x)) xs
map-twice f g [] = refl
map-twice f g (x ∷ xs) = ap (λ (l : List _). g (f x) ∷ l) (map-twice f g xs)

-- ---- the place that is found is one of those that count

pub place-below : (part count : ℕ) (parts : List ℕ) (i : ℕ) → place_among 0 part (take count parts) ≡ Some i → i < count
place-below part count parts i e = omega (arith, (placed-in (eqb part) (take count parts) i e).below, length-take count parts)

-- ---- what is found in the columns is what is found in the table

-- what a column has at a place that counts is that of the table's cluster there
column-at : {A : Type 0} (of-cluster : Cluster → A) (t : Table) (count i : ℕ) (column : List A) (d : Cluster) → i < count
    → take count column ≡ map of-cluster t → get_or column i (of-cluster d) ≡ of-cluster (get_or t i d)
column-at of-cluster t count i column d h e =
    sym (get_or-take count column i (of-cluster d) h) ∙ ap (λ (l : List _). get_or l i (of-cluster d)) e ∙ get_or-map of-cluster t i d

module _ (columns : Columns) (t : Table) (of : ColumnsOf columns t) (part : ℕ) where
  same_place : place_among 0 part (take columns.count columns.parts) ≡ place_of part t
  same_place = ap (place_among 0 part) of.parts ∙ place-in-map part_of (eqb part) 0 t

  pub none-among : place_among 0 part (take columns.count columns.parts) ≡ None → find part t ≡ none
  none-among e = nothing-found 0 part t (sym same_place ∙ e)

  -- the cluster with the part number is found, and its version and mark stand at the same place; v and stays stand in for places past
  -- the columns
  pub record FoundAmong (i : ℕ) (v : Version) (stays : Bool) : Type 0 where
    pub found : Cluster
    pub there : find part t ≡ some found
    pub same_version : get_or columns.versions i v ≡ found.version
    pub same-mark : get_or columns.marks i stays ≡ found.stays

  pub found_among : (i : ℕ) (v : Version) (stays : Bool) → place_among 0 part (take columns.count columns.parts) ≡ Some i → FoundAmong i v stays
  found_among i v stays e =
      let d = marked_cluster 0 v [] stays in
      let p = place-says part t i d (sym same_place ∙ e) in
      let l = place-below part columns.count columns.parts i e in
      record {
        found = get_or t i d;
        there = p.there;
        same_version = column-at version_of t columns.count i columns.versions d l of.versions;
        same-mark = column-at mark_of t columns.count i columns.marks d l of.marks;
      }

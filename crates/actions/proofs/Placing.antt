-- A table with the cluster at the place that a search gives replaced or taken out, and with one more cluster at the place for
-- it. Assumes nothing.
use Prim.Native.Nat.{ℕ, suc, ◌+◌, ◌≤◌}
use mathlib.Core.Path.{◌≡◌, refl, sym, ap}
use mathlib.Core.Bool.{Bool, true, false, cond}
use mathlib.Core.List.{List, [], ◌∷◌, ◌++◌, map}
use mathlib.Core.Option.{none}
use native.Mathlib.Numerals.{add-one}
use native.Mathlib.Omega.{arith}
use lib.Dec.{eqb, ltb}
use lib.ListN.{length, take, drop, get_or}
use borrow.Author.Tests.{eqb-true}
use Rattle.base.proofs.Tests.{bool_cases, none-some}
use Rattle.clusters.specs.declared.cluster.Cluster.{Cluster as ClusterStruct}
use Rattle.std.specs.Prelude.{Some, unwrap_or}
use Rattle.std.specs.List.{position_from}
use Rattle.place_in_list.proofs.Placed.{holds-at-place}
use Rattle.clusters.specs.Cluster.{Cluster, with_mark}
use Rattle.clusters.specs.Table.{Table, find, rising_above}
use Rattle.clusters.specs.View.{view_cluster}
use Rattle.clusters.specs.Place.{has_part, place_of}
use Rattle.clusters.specs.Exact.{put_at}
use Rattle.clusters.proofs.Limits.{rising-says}
use Rattle.clusters.proofs.Equal.{find-low}
use Rattle.actions.specs.Action.{insert, replace, take_out}
use Rattle.actions.specs.Place.{insert_place_from}

-- ---- where nothing is found, nothing is changed

pub replace_absent : (c : Cluster) (t : Table) → find c.part t ≡ none → replace c t ≡ t
unfolding find replace
replace_absent c [] e = refl
replace_absent c (d ∷ t) e =
    let ih : find c.part t ≡ none → replace c t ≡ t = replace_absent c t in
    bool_cases (eqb c.part d.part) (λ z. none-some (sym (rw z at e))) λ z. rw z (ap (λ (l : Table). d ∷ l) (ih (rw z at e)))

pub take-out-absent : (part : ℕ) (t : Table) → find part t ≡ none → take_out part t ≡ t
unfolding find take_out
take-out-absent part [] e = refl
take-out-absent part (d ∷ t) e =
    let ih : find part t ≡ none → take_out part t ≡ t = take-out-absent part t in
    bool_cases (eqb part d.part) (λ z. none-some (sym (rw z at e))) λ z. rw z (ap (λ (l : Table). d ∷ l) (ih (rw z at e)))

-- ---- the place that is found

-- in a rising table the cluster with the part number stands at i and only there; one in its place keeps its mark
pub record ChangedAt (part : ℕ) (t : Table) (i : ℕ) : Type 0 where
  pub replaced : (last : ℕ) → rising_above last t ≡ true → (c d : Cluster) → c.part ≡ part → replace c t ≡ put_at i (with_mark c (get_or t i d).stays) t
  pub taken_out : (last : ℕ) → rising_above last t ≡ true → take_out part t ≡ take i t ++ drop (i + 1) t

changed-first : (part : ℕ) (x : Cluster) (t : Table) → eqb part x.part ≡ true → ChangedAt part (x ∷ t) 0
unfolding replace take_out
changed-first part x t z =
    let low : (last : ℕ) → rising_above last (x ∷ t) ≡ true → find part t ≡ none = λ last h. find-low part x.part t (omega (arith, eqb-true part x.part z)) (rising-says last x t h).rest in
    record {
      replaced = λ last h c d e. let y : eqb c.part x.part ≡ true = rw e z in rw y (ap (λ (l : Table). with_mark c x.stays ∷ l) (replace_absent c t (rw e (low last h))));
      taken_out = λ last h. rw z (take-out-absent part t (low last h));
    }

drop-one-more : (i : ℕ) (x : Cluster) (t : Table) → drop (suc i + 1) (x ∷ t) ≡ drop (i + 1) t
drop-one-more i x t = rw (add-one (suc i), add-one i)

changed-further : (part : ℕ) (x : Cluster) (t : Table) (i : ℕ) → eqb part x.part ≡ false → ChangedAt part t i → ChangedAt part (x ∷ t) (suc i)
unfolding replace take_out
changed-further part x t i z p = record {
  replaced = λ last h c d e. let y : eqb c.part x.part ≡ false = rw e z in rw (y, drop-one-more i x t) (ap (λ (l : Table). x ∷ l) (p.replaced x.part (rising-says last x t h).rest c d e));
  taken_out = λ last h. rw (z, drop-one-more i x t) (ap (λ (l : Table). x ∷ l) (p.taken_out x.part (rising-says last x t h).rest));
}

pub changed-at : (part : ℕ) (t : Table) (i : ℕ) → place_of part t ≡ Some i → ChangedAt part t i
changed-at part t i e = holds-at-place (has_part part) (ChangedAt part) (changed-first part) (changed-further part) t i e

-- ---- the place for one more cluster

insert-place-from : (i part : ℕ) (t : Table) → insert_place_from i part t ≡ i + insert_place_from 0 part t
unfolding insert_place_from
insert-place-from i part [] = omega arith
insert-place-from i part (x ∷ t) = go (ltb part x.part) (insert-place-from (i + 1) part t) (insert-place-from 1 part t)
  where
    go : (b : Bool) → insert_place_from (i + 1) part t ≡ i + 1 + insert_place_from 0 part t → insert_place_from 1 part t ≡ 1 + insert_place_from 0 part t
        → cond b i (insert_place_from (i + 1) part t) ≡ i + cond b 0 (insert_place_from 1 part t)
    go true e f = omega arith
    go false e f = omega arith

-- the place of the first with a larger part number, and the place behind all where there is none
pub insert-place-is : (i part : ℕ) (t : Table) → unwrap_or (position_from (λ (c : Cluster). ltb part c.part) i t) (i + length t) ≡ insert_place_from i part t
unfolding insert_place_from
insert-place-is i part [] = omega arith
insert-place-is i part (c ∷ t) =
    let ih = insert-place-is (i + 1) part t in
    let e : i + length (c ∷ t) ≡ i + 1 + length t = omega arith in
    bool_cases (ltb part c.part) (λ z. rw z) λ z. rw (z, e) ih

pub insert-place-low : (part : ℕ) (t : Table) → insert_place_from 0 part t ≤ length t
unfolding insert_place_from
insert-place-low part [] = omega arith
insert-place-low part (x ∷ t) = go (ltb part x.part) (insert-place-low part t) (insert-place-from 1 part t)
  where
    go : (b : Bool) → insert_place_from 0 part t ≤ length t → insert_place_from 1 part t ≡ 1 + insert_place_from 0 part t → cond b 0 (insert_place_from 1 part t) ≤ suc (length t)
    go true e f = omega arith
    go false e f = omega arith

inserted-there : (c : ClusterStruct) (l : List ClusterStruct)
    → (let i = insert_place_from 0 c.part (map view_cluster l) in map view_cluster (take i l ++ c ∷ drop i l) ≡ insert (view_cluster c) (map view_cluster l))
unfolding insert_place_from insert
inserted-there c [] = refl
inserted-there c (x ∷ xs) = go (ltb c.part x.part) one (inserted-there c xs)
  where
    one : insert_place_from 1 c.part (map view_cluster xs) ≡ suc (insert_place_from 0 c.part (map view_cluster xs))
    one = let e = insert-place-from 1 c.part (map view_cluster xs) in omega arith

    go : (b : Bool) → insert_place_from 1 c.part (map view_cluster xs) ≡ suc (insert_place_from 0 c.part (map view_cluster xs))
        → (let i = insert_place_from 0 c.part (map view_cluster xs) in map view_cluster (take i xs ++ c ∷ drop i xs) ≡ insert (view_cluster c) (map view_cluster xs))
        → (let i = cond b 0 (insert_place_from 1 c.part (map view_cluster xs)) in
        map view_cluster (take i (x ∷ xs) ++ c ∷ drop i (x ∷ xs)) ≡ cond b (view_cluster c ∷ view_cluster x ∷ map view_cluster xs) (view_cluster x ∷ insert (view_cluster c) (map view_cluster xs)))
    go true o h = refl
    go false o h = rw o (ap (λ (l : Table). view_cluster x ∷ l) h)

-- a cluster put at that place is the cluster inserted by part number
pub inserted : (c : ClusterStruct) (l : List ClusterStruct) (i : ℕ) → i ≡ insert_place_from 0 c.part (map view_cluster l)
    → map view_cluster (take i l ++ c ∷ drop i l) ≡ insert (view_cluster c) (map view_cluster l)
inserted c l i e = rw e (inserted-there c l)

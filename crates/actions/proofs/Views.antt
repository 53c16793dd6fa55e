-- The tables of specs/Exact.antt as the plain values that they stand for. Assumes nothing.
use Prim.Native.Nat.{ℕ, ◌+◌, ◌-◌, ◌≤◌, ◌<◌}
use mathlib.Core.Path.{◌≡◌, refl, sym, ap, ◌∙◌}
use mathlib.Core.Bool.{true, false}
use mathlib.Core.List.{List, map, map-append}
use native.Mathlib.Omega.{arith}
use lib.Dec.{leb}
use lib.ListN.{length, take, drop, get_or, length-map, length-take, get_or-map}
use lib.Seq.{get_or-take}
use borrow.Author.Tests.{le-leb, leb-true, leb-false, lt-leb}
use Rattle.base.proofs.Tests.{bool_cases, cond-true}
use Rattle.base.proofs.Counted.{counted-few}
use Rattle.clusters.specs.declared.cluster.Cluster.{Cluster as ClusterStruct}
use Rattle.clusters.specs.declared.table.Table.{Table as TableStruct}
use Rattle.std.specs.Prelude.{None, Some}
use Rattle.place_in_list.specs.Place.{Found}
use Rattle.clusters.specs.Table.{table_within, clusters_most}
use Rattle.clusters.specs.View.{no_cluster, view_cluster, view_table}
use Rattle.clusters.specs.Place.{place_of}
use Rattle.clusters.specs.Cluster.{Cluster, with_mark}
use Rattle.clusters.specs.Exact.{put_at}
use Rattle.clusters.specs.Exact as clusters
use Rattle.clusters.proofs.Limits.{rising-clusters}
use Rattle.clusters.proofs.Along.{view-few, table-length}
use Rattle.clusters.proofs.Placing.{Placed, place-says, nothing-found}
use Rattle.clusters.proofs.Views.{few-of-within, view-with-mark}
use Rattle.actions.specs.declared.action.Change.{Change}
use Rattle.actions.specs.declared.action.Change.TheVariants.{Install, Update, Remove}
use Rattle.actions.specs.declared.action.Action.{Action as ActionStruct}
use Rattle.actions.specs.Action.{Action, insert, replace, take_out, apply}
use Rattle.actions.specs.Refusals.{passes, table_full}
use Rattle.actions.specs.View.{view_action, action_of}
use Rattle.actions.specs.Place.{insert_place_from}
use Rattle.actions.specs.Exact as exact
use Rattle.actions.proofs.Changes.{passes-says}
use Rattle.actions.proofs.Arrays.{first-insert, first-close, map-take, map-drop, map-put, take_put, length-put, length-insert-at, length-close}
use Rattle.actions.proofs.Placing.{ChangedAt, changed-at, insert-place-low, inserted, replace_absent, take-out-absent}

pub view-insert : (c : ClusterStruct) (t : TableStruct) → t.count < clusters_most → view_table (exact.insert c t) ≡ insert (view_cluster c) (view_table t)
unfolding exact.insert exact.insert_at
view-insert c t h =
    let few : t.count ≤ clusters_most = omega arith in
    let seen = take t.count t.clusters in
    let i = insert_place_from 0 c.part (view_table t) in
    let e : i ≡ insert_place_from 0 c.part (map view_cluster seen) = ap (insert_place_from 0 c.part) (view-few t few) in
    let le : i ≤ t.count = omega (arith, e, insert-place-low c.part (map view_cluster seen), length-map seen view_cluster, length-take t.count t.clusters) in
    ap (map view_cluster) (counted-few clusters_most (t.count + 1) no_cluster _ (omega arith) ∙ first-insert i t.count c t.clusters le)
    ∙ inserted c seen i e
    ∙ ap (insert (view_cluster c)) (sym (view-few t few))

-- the place that is found, in the first clusters of the struct
changed-in : (part : ℕ) (t : TableStruct) (i : ℕ) → t.count ≤ clusters_most → place_of part (view_table t) ≡ Some i → ChangedAt part (map view_cluster (take t.count t.clusters)) i
changed-in part t i few e = let q = view-few t few in changed-at part _ i (rw q at e)

-- the place is one of those that count, and the array has it
place-below : (part : ℕ) (t : TableStruct) (i : ℕ) → t.count ≤ clusters_most → place_of part (view_table t) ≡ Some i → (i < t.count) × (i < length t.clusters)
place-below part t i few e =
    let q = view-few t few in
    let p : Placed part (view_cluster no_cluster) (map view_cluster (take t.count t.clusters)) i = place-says part _ i _ (rw q at e) in
    let b = p.below in
    let l = length-map (take t.count t.clusters) view_cluster in
    let m = length-take t.count t.clusters in
    (omega arith, omega arith)

-- the mark there, in the first clusters
mark-seen : (t : TableStruct) (i : ℕ) → i < t.count
    → (get_or t.clusters i no_cluster).stays ≡ (get_or (map view_cluster (take t.count t.clusters)) i (view_cluster no_cluster)).stays
mark-seen t i l =
    let seen = take t.count t.clusters in
    sym (ap (λ (d : Cluster). d.stays) (get_or-map view_cluster seen i no_cluster ∙ ap view_cluster (get_or-take t.count t.clusters i no_cluster l)))

pub view-replace : (c : ClusterStruct) (t : TableStruct) → table_within (view_table t) ≡ true → view_table (exact.replace c t) ≡ replace (view_cluster c) (view_table t)
unfolding exact.replace
view-replace c t h = go (place_of c.part (view_table t)) refl
  where
    few : t.count ≤ clusters_most
    few = few-of-within t h

    seen : List ClusterStruct
    seen = take t.count t.clusters

    at : (i : ℕ) → place_of c.part (view_table t) ≡ Some i → view_table (exact.replace_at (Some i) c t) ≡ replace (view_cluster c) (view_table t)
    at i e =
        let b = place-below c.part t i few e in
        let mark = (get_or t.clusters i no_cluster).stays in
        let new = clusters.with_mark c mark in
        let same : mark ≡ (get_or (map view_cluster seen) i (view_cluster no_cluster)).stays = mark-seen t i b.0 in
        ap (map view_cluster) (counted-few clusters_most t.count no_cluster (put_at i new t.clusters) few ∙ take_put i t.count new t.clusters b.0 b.1)
        ∙ map-put view_cluster i new seen
        ∙ ap (λ (d : Cluster). put_at i d (map view_cluster seen)) (view-with-mark c mark ∙ ap (with_mark (view_cluster c)) same)
        ∙ sym ((changed-in c.part t i few e).replaced 0 (rw (view-few t few) at (rising-clusters (view_table t) h)) (view_cluster c) (view_cluster no_cluster) refl)
        ∙ ap (replace (view_cluster c)) (sym (view-few t few))

    go : (f : Found) → place_of c.part (view_table t) ≡ f → view_table (exact.replace_at f c t) ≡ replace (view_cluster c) (view_table t)
    go (Some i) e = at i e
    go None e = sym (replace_absent (view_cluster c) (view_table t) (nothing-found 0 c.part (view_table t) e))

pub view-take-out : (part : ℕ) (t : TableStruct) → table_within (view_table t) ≡ true → view_table (exact.take_out part t) ≡ take_out part (view_table t)
unfolding exact.take_out exact.close_gap
view-take-out part t h = go (place_of part (view_table t)) refl
  where
    few : t.count ≤ clusters_most
    few = few-of-within t h

    seen : List ClusterStruct
    seen = take t.count t.clusters

    at : (i : ℕ) → place_of part (view_table t) ≡ Some i → view_table (exact.close_gap i t) ≡ take_out part (view_table t)
    at i e =
        let b = place-below part t i few e in
        ap (map view_cluster) (counted-few clusters_most (t.count - 1) no_cluster _ (omega (arith, few)) ∙ first-close i t.count t.clusters b.0 b.1)
        ∙ map-append view_cluster (take i seen) (drop (i + 1) seen)
        ∙ rw (map-take view_cluster i seen, map-drop view_cluster (i + 1) seen)
        (sym ((changed-in part t i few e).taken_out 0 (rw (view-few t few) at (rising-clusters (view_table t) h))) ∙ ap (take_out part) (sym (view-few t few)))

    go : (f : Found) → place_of part (view_table t) ≡ f → view_table (exact.take_out_at f t) ≡ take_out part (view_table t)
    go (Some i) e = at i e
    go None e = sym (take-out-absent part (view_table t) (nothing-found 0 part (view_table t) e))

-- ---- actions

view-install : (c : ClusterStruct) (t : TableStruct) → length t.clusters ≡ clusters_most → t.count ≤ clusters_most → leb clusters_most (length (view_table t)) ≡ false
    → view_table (exact.change Install c t) ≡ insert (with_mark (view_cluster c) false) (view_table t)
view-install c t long few r =
    let l : t.count < clusters_most = omega (arith, leb-false clusters_most (length (view_table t)) r, table-length t few long) in
    rw (lt-leb clusters_most t.count l) (view-insert (clusters.with_mark c false) t l ∙ ap (λ (d : Cluster). insert d (view_table t)) (view-with-mark c false))

-- an action that passes 11 to 15 and 21, on a table within its limits
pub view-apply : (t : TableStruct) (listed : List Action) (a : ActionStruct) → length t.clusters ≡ clusters_most → table_within (view_table t) ≡ true
    → passes (view_table t) listed (view_action a) ≡ true → view_table (exact.apply a t) ≡ apply (view_action a) (view_table t)
unfolding exact.apply apply table_full
view-apply t listed a long h p =
    ap view_table (cond-true (exact.change a.change a.cluster t) t (le-leb t.count clusters_most few))
    ∙ go a.change (passes-says (view_table t) listed (view_action a) p).room
  where
    few : t.count ≤ clusters_most
    few = few-of-within t h

    go : (k : Change) → table_full (length (view_table t)) (action_of k (view_cluster a.cluster)) ≡ false → view_table (exact.change k a.cluster t) ≡ apply (action_of k (view_cluster a.cluster)) (view_table t)
    go Install r = view-install a.cluster t long few r
    go Update r = view-replace a.cluster t h
    go Remove r = view-take-out a.cluster.part t h

-- ---- the arrays keep their length

module _ (t : TableStruct) (long : length t.clusters ≡ clusters_most) where
  length-insert : (c : ClusterStruct) → t.count < clusters_most → length (exact.insert c t).clusters ≡ clusters_most
  unfolding exact.insert exact.insert_at
  length-insert c h =
      let low = insert-place-low c.part (view_table t) in
      length-insert-at (insert_place_from 0 c.part (view_table t)) t.count c t.clusters (omega (arith, table-length t (omega arith) long)) (omega arith) ∙ long

  length-replace : (c : ClusterStruct) → t.count ≤ clusters_most → length (exact.replace c t).clusters ≡ clusters_most
  unfolding exact.replace
  length-replace c few = go (place_of c.part (view_table t)) refl
    where
      go : (f : Found) → place_of c.part (view_table t) ≡ f → length (exact.replace_at f c t).clusters ≡ clusters_most
      go (Some i) e = length-put i (clusters.with_mark c (get_or t.clusters i no_cluster).stays) t.clusters (place-below c.part t i few e).1 ∙ long
      go None e = long

  length-take-out : (part : ℕ) → t.count ≤ clusters_most → length (exact.take_out part t).clusters ≡ clusters_most
  unfolding exact.take_out exact.close_gap
  length-take-out part few = go (place_of part (view_table t)) refl
    where
      go : (f : Found) → place_of part (view_table t) ≡ f → length (exact.take_out_at f t).clusters ≡ clusters_most
      go (Some i) e = length-close i t.count t.clusters (place-below part t i few e).0 (omega (arith, few, long)) ∙ long
      go None e = long

  pub length-apply : (a : ActionStruct) → length (exact.apply a t).clusters ≡ clusters_most
  unfolding exact.apply
  length-apply a = bool_cases (leb t.count clusters_most) (λ z. rw z (go a.change (leb-true t.count clusters_most z))) λ z. rw z long
    where
      go : (k : Change) → t.count ≤ clusters_most → length (exact.change k a.cluster t).clusters ≡ clusters_most
      go Install few =
          bool_cases (leb clusters_most t.count) (λ z. rw z long) λ z. rw z (length-insert (clusters.with_mark a.cluster false) (leb-false clusters_most t.count z))
      go Update few = length-replace a.cluster few
      go Remove few = length-take-out a.cluster.part few

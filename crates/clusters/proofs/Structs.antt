-- The structs with every unused place cleared: what is built from them has every unused place cleared too, and they stand for
-- what they were made of. Assumes nothing.
use Prim.Native.Nat.{ℕ, suc, ◌+◌, ◌-◌, ◌≤◌, ◌<◌}
use mathlib.Core.Path.{◌≡◌, refl, sym, ap, ap₂, ◌∙◌}
use mathlib.Core.Bool.{Bool, true}
use mathlib.Core.List.{List, [], ◌∷◌, ◌++◌, map, map-append}
use native.Mathlib.Omega.{arith}
use lib.ListN.{length, take, drop, replicate, length-append, length-map}
use lib.Seq.{append_snoc, take-append_seam, drop-append-add}
use borrow.Author.Tests.{leb-true}
use Rattle.base.proofs.Counted.{counted-few}
use Rattle.text.specs.declared.version.Version.{Version}
use Rattle.clusters.specs.declared.cluster.Need.{Need}
use Rattle.clusters.specs.declared.cluster.Cluster.{Cluster as ClusterStruct}
use Rattle.clusters.specs.declared.table.Table.{Table as TableStruct}
use Rattle.clusters.specs.Cluster.{Cluster, cluster, marked_cluster, with_need, with_mark, needs_most}
use Rattle.clusters.specs.Table.{Table, table_within, rising_above, clusters_most}
use Rattle.clusters.specs.View.{no_need, no_cluster, view_cluster, view_table}
use Rattle.clusters.specs.Struct.{padded, struct_cluster, cleared_cluster, struct_table}
use Rattle.clusters.specs.Exact as exact
use Rattle.clusters.proofs.Limits.{rising-says, few-clusters, rising-clusters, cluster-few-needs}

-- ---- lists with room behind them

module _ {A : Type 0} where
  length-one-more : (xs : List A) (x : A) → length (xs ++ x ∷ []) ≡ length xs + 1
  length-one-more xs x = length-append xs (x ∷ [])

  put-behind : (most : ℕ) (cleared x : A) (xs : List A) (n : ℕ) → length xs ≡ n → n < most → exact.put_at n x (padded most cleared xs) ≡ padded most cleared (xs ++ x ∷ [])
  put-behind most cleared x xs n l h =
      let room = replicate (most - length xs) cleared in
      let one : most - length xs ≡ suc (most - length (xs ++ x ∷ [])) = omega (arith, length-one-more xs x) in
      let front : take n (xs ++ room) ≡ xs = rw (← l) (take-append_seam xs room) in
      let behind : drop (n + 1) (xs ++ room) ≡ replicate (most - length (xs ++ x ∷ [])) cleared = rw (← l, drop-append-add xs room 1, one) in
      rw (front, behind) (sym (append_snoc xs x (replicate (most - length (xs ++ x ∷ [])) cleared)))

  put_last : (x y : A) (xs room : List A) (n : ℕ) → length xs ≡ n → exact.put_at n y ((xs ++ x ∷ []) ++ room) ≡ (xs ++ y ∷ []) ++ room
  put_last x y xs room n l =
      let front : take n (xs ++ x ∷ room) ≡ xs = rw (← l) (take-append_seam xs (x ∷ room)) in
      let behind : drop (n + 1) (xs ++ x ∷ room) ≡ room = rw (← l) (drop-append-add xs (x ∷ room) 1) in
      rw (append_snoc xs x room, front, behind) (sym (append_snoc xs y room))

  seen_all : (most : ℕ) (cleared : A) (xs : List A) → take (length xs) (padded most cleared xs) ≡ xs
  seen_all most cleared xs = take-append_seam xs _

-- ---- clusters

pub struct-new-cluster : (part : ℕ) (version : Version) → exact.new_cluster part version ≡ struct_cluster (cluster part version [])
unfolding exact.new_cluster struct_cluster
struct-new-cluster part version = refl

pub struct-with-need : (c : Cluster) (n : Need) → length c.needs < needs_most → exact.with_need (struct_cluster c) n ≡ struct_cluster (with_need c n)
unfolding exact.with_need struct_cluster
struct-with-need c n h =
    ap₂ {C = ClusterStruct} (λ (needs : List Need) (count : ℕ). record { part = c.part; version = c.version; needs = needs; need_count = count; stays = c.stays })
    (put-behind needs_most no_need n c.needs (length c.needs) refl h) (sym (length-one-more c.needs n))

pub view-struct-cluster : (c : Cluster) → length c.needs ≤ needs_most → view_cluster (struct_cluster c) ≡ c
unfolding struct_cluster
view-struct-cluster c h =
    ap (λ (needs : List Need). marked_cluster c.part c.version needs c.stays)
    (counted-few needs_most (length c.needs) no_need (padded needs_most no_need c.needs) h ∙ seen_all needs_most no_need c.needs)

pub struct-with-mark : (c : Cluster) (stays : Bool) → exact.with_mark (struct_cluster c) stays ≡ struct_cluster (with_mark c stays)
unfolding exact.with_mark struct_cluster
struct-with-mark c stays = refl

-- ---- tables

pub struct-empty : exact.empty_table ≡ struct_table []
unfolding exact.empty_table struct_table
struct-empty = refl

structs-one-more : (t : Table) (c : Cluster) → map struct_cluster (t ++ c ∷ []) ≡ map struct_cluster t ++ struct_cluster c ∷ []
structs-one-more t c = map-append struct_cluster t (c ∷ [])

pub struct-append : (t : Table) (c : Cluster) → length t < clusters_most → exact.append (struct_table t) (struct_cluster c) ≡ struct_table (t ++ c ∷ [])
unfolding exact.append struct_table
struct-append t c h =
    ap₂ {C = TableStruct} (λ (clusters : List ClusterStruct) (count : ℕ). record { clusters = clusters; count = count })
    (put-behind clusters_most cleared_cluster (struct_cluster c) (map struct_cluster t) (length t) (length-map t struct_cluster) h ∙ ap (padded clusters_most cleared_cluster) (sym (structs-one-more t c)))
    (sym (length-one-more t c))

-- another cluster at the place of the last
pub struct-at-last : (front : Table) (c d : Cluster)
    → exact.put_at (length front) (struct_cluster d) (struct_table (front ++ c ∷ [])).clusters ≡ (struct_table (front ++ d ∷ [])).clusters
unfolding struct_table
struct-at-last front c d =
    let xs = map struct_cluster front in
    let room = replicate (clusters_most - length (xs ++ struct_cluster c ∷ [])) cleared_cluster in
    let same-room : room ≡ replicate (clusters_most - length (xs ++ struct_cluster d ∷ [])) cleared_cluster =
    ap (λ (k : ℕ). replicate (clusters_most - k) cleared_cluster) (length-one-more xs (struct_cluster c) ∙ sym (length-one-more xs (struct_cluster d))) in
    ap (λ (l : List ClusterStruct). exact.put_at (length front) (struct_cluster d) (padded clusters_most cleared_cluster l)) (structs-one-more front c)
    ∙ put_last (struct_cluster c) (struct_cluster d) xs room (length front) (length-map front struct_cluster)
    ∙ ap (λ (l : List ClusterStruct). (xs ++ struct_cluster d ∷ []) ++ l) same-room
    ∙ ap (padded clusters_most cleared_cluster) (sym (structs-one-more front d))

pub view_struct : (t : Table) → table_within t ≡ true → view_table (struct_table t) ≡ t
unfolding struct_table
view_struct t h =
    ap (map view_cluster) (counted-few clusters_most (length t) no_cluster _ (few-clusters t h) ∙ ap (λ (n : ℕ). take n (padded clusters_most cleared_cluster (map struct_cluster t))) (sym (length-map t struct_cluster)) ∙ seen_all clusters_most cleared_cluster (map struct_cluster t))
    ∙ viewed 0 t (rising-clusters t h)
  where
    viewed : (last : ℕ) (u : Table) → rising_above last u ≡ true → map view_cluster (map struct_cluster u) ≡ u
    viewed last [] r = refl
    viewed last (c ∷ u) r =
        let s = rising-says last c u r in
        ap₂ ◌∷◌ (view-struct-cluster c (leb-true (length c.needs) needs_most (cluster-few-needs c s.within))) (viewed c.part u s.rest)

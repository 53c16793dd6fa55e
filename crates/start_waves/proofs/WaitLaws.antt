-- The places that clusters wait for: what a need of a cluster, or none, gives, and how a loop over a flat array fills them. Assumes nothing.
use Prim.Native.Nat.{ℕ, zero, suc, ◌+◌, ◌*◌, ◌/◌, ◌%◌, ◌≤◌, ◌<◌}
use mathlib.Core.Path.{◌≡◌, refl, sym, ap, ◌∙◌}
use mathlib.Core.List.{List, [], ◌∷◌, map}
use mathlib.Core.Option.{none, some}
use native.Mathlib.Omega.{arith}
use native.Mathlib.Nat.{div-add-mod', mod-lt}
use lib.Dec.{eqb}
use borrow.Author.Tests.{eqb-true, eqb-false}
use lib.ListN.{length, take, get_or, set, get_elem?, length-take, length-set}
use lib.Seq.{get_or-take, get_or-set_same, get_or-set_other}
use Rattle.base.proofs.Tests.{bool_cases}
use Rattle.base.proofs.Counted.{counted-few}
use Rattle.std.specs.Prelude.{unwrap_or}
use Rattle.place_in_list.specs.Place.{Found}
use Rattle.place_in_list.proofs.Placed.{place-in-map}
use Rattle.clusters.specs.declared.cluster.Cluster.{Cluster as ClusterStruct}
use Rattle.clusters.specs.declared.table.Table.{Table as TableStruct}
use Rattle.clusters.specs.Cluster.{Cluster, needs_most}
use Rattle.clusters.specs.Table.{Table, clusters_most}
use Rattle.clusters.specs.View.{no_need, no_cluster, view_cluster, view_table}
use Rattle.clusters.specs.Place.{place_among, part_of}
use Rattle.clusters.proofs.Along.{table_at}
use Rattle.start_waves.specs.Waits.{wait_place, wait_at, waits_most}

-- ---- an element of a list, or none

element : {A : Type 0} (l : List A) (j : ℕ) (d : A) → j < length l → get_elem? l j ≡ some (get_or l j d)
element [] j d h = absurd (omega arith)
element (x ∷ l) zero d h = refl
element (x ∷ l) (suc j) d h = element l j d (omega arith)

no-element : {A : Type 0} (l : List A) (j : ℕ) → length l ≤ j → get_elem? l j ≡ none
no-element [] j h = refl
no-element (x ∷ l) zero h = absurd (omega arith)
no-element (x ∷ l) (suc j) h = no-element l j (omega arith)

-- ---- what a cluster waits for by its need j, or by none

-- parts is the column of part numbers of a table
module _ (c : ClusterStruct) (few : c.need_count ≤ needs_most) (long : length c.needs ≡ needs_most) (own j : ℕ) (t : Table) where
  needs-seen : (view_cluster c).needs ≡ take c.need_count c.needs
  needs-seen = counted-few needs_most c.need_count no_need c.needs few

  seen-length : length (take c.need_count c.needs) ≡ c.need_count
  seen-length = simp length-take (omega arith)

  pub no-need-left : c.need_count ≤ j → own ≡ wait_place t own (get_elem? (view_cluster c).needs j)
  unfolding wait_place
  no-need-left h = rw (needs-seen, no-element (take c.need_count c.needs) j (rw seen-length h))

  pub need-place : (column : List ℕ) (r : ℕ) → j < c.need_count → column ≡ map part_of t
      → r ≡ unwrap_or (place_among 0 (get_or c.needs j no_need).part column) clusters_most → r ≡ wait_place t own (get_elem? (view_cluster c).needs j)
  unfolding wait_place
  need-place column r h e q =
      rw (needs-seen, element (take c.need_count c.needs) j no_need (rw seen-length h), get_or-take c.need_count c.needs j no_need h)
      (q ∙ ap (λ (l : List ℕ). unwrap_or (place_among 0 (get_or c.needs j no_need).part l) clusters_most) e ∙ ap (λ (r : Found). unwrap_or r clusters_most) (place-in-map part_of (eqb (get_or c.needs j no_need).part) 0 t))

-- ---- the flat array

-- the places below k are those of the table
pub record FilledTo (places : List ℕ) (t : Table) (k : ℕ) : Type 0 where
  pub long : length places ≡ waits_most
  pub filled : (own j : ℕ) → j < needs_most → own * needs_most + j < k → get_or places (own * needs_most + j) 0 ≡ wait_at t own j

-- one place more: x is that of the need k % 4 of the cluster at k / 4
pub filled_more : {places : List ℕ} {t : Table} {k : ℕ} (x : ℕ) → k < waits_most → FilledTo places t k → x ≡ wait_at t (k / needs_most) (k % needs_most)
    → FilledTo (set places k x) t (k + 1)
filled_more {places} {t} {k} x l so_far e = record { long = length-set places k x ∙ so_far.long; filled = more }
  where
    more : (own j : ℕ) → j < needs_most → own * needs_most + j < k + 1 → get_or (set places k x) (own * needs_most + j) 0 ≡ wait_at t own j
    more own j few below =
        bool_cases (eqb (own * needs_most + j) k)
        (λ z.
        let m : own * needs_most + j ≡ k = eqb-true _ _ z in
        let q : own ≡ k / needs_most = omega (arith, div-add-mod' k needs_most, mod-lt k {m = needs_most} (omega arith)) in
        let r : j ≡ k % needs_most = omega (arith, div-add-mod' k needs_most, mod-lt k {m = needs_most} (omega arith)) in
        rw m (rw (q, r) (get_or-set_same places k x 0 (rw so_far.long l) ∙ e)))
        λ z.
        let m : own * needs_most + j ≡ k → ⊥ = eqb-false _ _ z in
        get_or-set_other places k (own * needs_most + j) x 0 m ∙ so_far.filled own j few (omega arith)

-- the cluster at a place of the struct is the table's
pub wait-of-struct : (t : TableStruct) → t.count ≤ clusters_most → length t.clusters ≡ clusters_most → (own j : ℕ) → own < t.count
    → wait_place (view_table t) own (get_elem? (view_cluster (get_or t.clusters own no_cluster)).needs j) ≡ wait_at (view_table t) own j
wait-of-struct t few long own j h =
    ap (λ (c : Cluster). wait_place (view_table t) own (get_elem? c.needs j)) (sym (table_at t few long own h))

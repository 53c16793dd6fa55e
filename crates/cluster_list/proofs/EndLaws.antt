-- The end of a table, which is its last cluster and the number of its clusters: what a cluster or a need added to the table gives there,
-- in the form in which the code knows it, and which place of the array is another then. x and y are calls' results. Assumes nothing.
use Prim.Native.Nat.{ℕ, ◌+◌, ◌-◌, ◌≤◌, ◌<◌}
use mathlib.Core.Path.{◌≡◌, refl, sym, ap, ap₂, subst, ◌∙◌}
use mathlib.Core.Bool.{Bool, true, false}
use mathlib.Core.List.{[], ◌∷◌, ◌++◌}
use mathlib.Core.Option.{Option, none, some}
use native.Mathlib.Omega.{arith}
use lib.Dec.{leb}
use lib.ListN.{length, length-append}
use borrow.Author.Tests.{leb-true, leb-false}
use Rattle.base.proofs.Tests.{cond_cases}
use Rattle.std.specs.Prelude.{Option as CodeOption, Some, None}
use Rattle.text.specs.declared.version.Version.{Version}
use Rattle.clusters.specs.declared.cluster.Need.{Need}
use Rattle.clusters.specs.declared.cluster.Cluster.{Cluster as ClusterStruct}
use Rattle.clusters.specs.declared.table.Table.{Table as TableStruct}
use Rattle.clusters.specs.Cluster.{Cluster, with_need, needs_most}
use Rattle.clusters.specs.Table.{Table, clusters_most}
use Rattle.clusters.specs.Struct.{struct_cluster, struct_table}
use Rattle.clusters.specs.Exact.{put_at, append, with_need as struct_with_need}
use Rattle.clusters.proofs.Structs.{struct-with-need, struct-append, struct-at-last}
use Rattle.cluster_list.specs.declared.value_line.LineSays.{LineSays}
use Rattle.cluster_list.specs.declared.value_line.LineSays.TheVariants as says
use Rattle.cluster_list.specs.declared.adding.TableEnd.{TableEnd}
use Rattle.cluster_list.specs.Read.{last_cluster, last_part, cluster_added, need_added, line_added, end_of, end_read}
use Rattle.cluster_list.proofs.Last.{last-cluster, need-added, need-too-many, cluster-full, cluster-not-above, cluster-added}
use Rattle.cluster_list.proofs.Within.{Such}

-- ---- the last of some clusters

record Split (t : Table) : Type 0 where
  front : Table
  last : Cluster
  parts : t ≡ front ++ last ∷ []

split : (t : Table) → 1 ≤ length t → Split t
split [] h = absurd (omega arith)
split (c ∷ []) h = record { front = []; last = c; parts = refl }
split (c ∷ d ∷ t) h =
    let rest = split (d ∷ t) (omega arith) in
    record { front = c ∷ rest.front; last = rest.last; parts = ap (λ (u : Table). c ∷ u) rest.parts }

-- ---- what is answered

now-last : (o : Option Table) (front : Table) (c : Cluster) (x : ClusterStruct) (count : ℕ) → o ≡ some (front ++ c ∷ []) → x ≡ struct_cluster c
    → count ≡ length front + 1 → Some (record { last = x; count = count }) ≡ end_read o
unfolding end_of
now-last o front c x count e f g =
    ap₂ {C = CodeOption TableEnd} (λ (d : ClusterStruct) (n : ℕ). Some (record { last = d; count = n }))
    (f ∙ ap struct_cluster (sym (last-cluster front c))) (g ∙ sym (length-append front (c ∷ [])))
    ∙ ap end_read (sym e)

module _ (t : Table) (end : TableEnd) (e : end ≡ end_of t) where
  same-last : end.last ≡ struct_cluster (last_cluster t)
  unfolding end_of
  same-last = ap (λ (x : TableEnd). x.last) e

  same_count : end.count ≡ length t
  unfolding end_of
  same_count = ap (λ (x : TableEnd). x.count) e

  module _ (c : Cluster) where
    pub no-room-for-cluster : 64 ≤ end.count → None ≡ end_read (cluster_added t c)
    no-room-for-cluster h = rw (cluster-full t c (omega (arith, same_count)))

    module _ (h : end.count < 64) where
      few : length t < clusters_most
      few = omega (arith, same_count)

      same-part : end.last.part ≡ last_part t
      unfolding last_part struct_cluster
      same-part = ap (λ (d : ClusterStruct). d.part) same-last

      pub cluster-too-low : c.part ≤ end.last.part → None ≡ end_read (cluster_added t c)
      cluster-too-low o = rw (cluster-not-above t c few (omega (arith, same-part)))

      pub cluster-put : (x : ClusterStruct) → end.last.part < c.part → x ≡ struct_cluster c
          → Some (record { last = x; count = end.count + 1 }) ≡ end_read (cluster_added t c)
      cluster-put x o q =
          now-last (cluster_added t c) t c x (end.count + 1) (cluster-added t c few (omega (arith, same-part))) q (omega (arith, same_count))

  module _ (n : Need) where
    pub no-cluster-for-need : end.count < 1 → None ≡ end_read (need_added t n)
    no-cluster-for-need h = rw (go t (omega (arith, same_count)))
      where
        go : (u : Table) → length u < 1 → need_added u n ≡ none
        go [] o = unfold need_added in refl
        go (c ∷ u) o = absurd (omega arith)

    module _ (h : 1 ≤ end.count) where
      ends : Split t
      ends = split t (omega (arith, same_count))

      last-is : end.last ≡ struct_cluster ends.last
      last-is = same-last ∙ ap struct_cluster (ap last_cluster ends.parts ∙ last-cluster ends.front ends.last)

      last-needs : end.last.need_count ≡ length ends.last.needs
      unfolding struct_cluster
      last-needs = ap (λ (c : ClusterStruct). c.need_count) last-is

      added-to : need_added t n ≡ need_added (ends.front ++ ends.last ∷ []) n
      added-to = ap (λ (u : Table). need_added u n) ends.parts

      pub no-room-for-need : 4 ≤ end.last.need_count → None ≡ end_read (need_added t n)
      no-room-for-need o = rw (added-to ∙ need-too-many ends.last n ends.front (omega (arith, last-needs)))

      pub need-put : (x : ClusterStruct) → end.last.need_count < 4 → x ≡ struct_with_need end.last n
          → Some (record { last = x; count = end.count }) ≡ end_read (need_added t n)
      need-put x o q =
          let room : length ends.last.needs < needs_most = omega (arith, last-needs) in
          now-last (need_added t n) ends.front (with_need ends.last n) x end.count
          (added-to ∙ need-added ends.last n ends.front room)
          (q ∙ ap (λ (c : ClusterStruct). struct_with_need c n) last-is ∙ struct-with-need ends.last n room)
          (same_count ∙ ap length ends.parts ∙ length-append ends.front (ends.last ∷ []))

pub ruleset added = (no-room-for-cluster, cluster-too-low, cluster-put, no-cluster-for-need, no-room-for-need, need-put)

-- what a line says is known by its case
module _ (t : Table) (line : LineSays) (y : CodeOption TableEnd) where
  pub says-begins : (part : ℕ) (version : Version) (need : CodeOption Need) (stays : Bool) → line ≡ says.Begins part version need stays
      → y ≡ end_read (line_added t (says.Begins part version need stays)) → y ≡ end_read (line_added t line)
  says-begins part version need stays e q = rw e q

  pub says-adds : (n : Need) → line ≡ says.Adds n → y ≡ end_read (line_added t (says.Adds n)) → y ≡ end_read (line_added t line)
  says-adds n e q = rw e q

pub ruleset said-so = (says-begins, says-adds)

-- ---- which place is another

-- the array of the table u, which has a cluster, is that of t with the last cluster of u put where it stands
pub record Grown (t u : Table) : Type 0 where
  pub some-there : 1 ≤ length u
  pub put : put_at (length u - 1) (struct_cluster (last_cluster u)) (struct_table t).clusters ≡ (struct_table u).clusters

grown : (t front : Table) (c : Cluster) → put_at (length front) (struct_cluster c) (struct_table t).clusters ≡ (struct_table (front ++ c ∷ [])).clusters
    → Grown t (front ++ c ∷ [])
grown t front c e =
    let long = length-append front (c ∷ []) in
    let place : length (front ++ c ∷ []) - 1 ≡ length front = omega (arith, long) in
    record {
      some-there = omega (arith, long);
      put = ap₂ (λ (k : ℕ) (d : Cluster). put_at k (struct_cluster d) (struct_table t).clusters) place (last-cluster front c) ∙ e;
    }

put-behind : (t : Table) (c : Cluster) → length t < clusters_most
    → put_at (length t) (struct_cluster c) (struct_table t).clusters ≡ (struct_table (t ++ c ∷ [])).clusters
unfolding append struct_table
put-behind t c h = ap (λ (u : TableStruct). u.clusters) (struct-append t c h)

cluster-grows : (t : Table) (c : Cluster) → Such (Grown t) (cluster_added t c)
unfolding cluster_added
cluster-grows t c =
    cond_cases (Such (Grown t)) (leb clusters_most (length t)) _ _ (λ _. tt) λ b.
    cond_cases (Such (Grown t)) (leb c.part (last_part t)) _ _ (λ _. tt) λ _.
    grown t t c (put-behind t c (leb-false clusters_most (length t) b))

need-grows : (t : Table) (n : Need) → Such (Grown t) (need_added t n)
unfolding need_added
need-grows [] n = tt
need-grows (d ∷ t) n =
    let ends = split (d ∷ t) (omega arith) in
    subst (λ (u : Table). Such (Grown u) (need_added u n)) (sym ends.parts) (go ends.front ends.last (leb needs_most (length ends.last.needs)) refl)
  where
    go : (front : Table) (c : Cluster) (b : Bool) → leb needs_most (length c.needs) ≡ b → Such (Grown (front ++ c ∷ [])) (need_added (front ++ c ∷ []) n)
    go front c true e = rw (need-too-many c n front (leb-true needs_most (length c.needs) e)) tt
    go front c false e =
        rw (need-added c n front (leb-false needs_most (length c.needs) e))
        (grown (front ++ c ∷ []) front (with_need c n) (struct-at-last front c (with_need c n)))

pub line-grows : (t : Table) (line : LineSays) → Such (Grown t) (line_added t line)
line-grows t (says.Begins part version need stays) = cluster-grows t _
line-grows t (says.Adds n) = need-grows t n

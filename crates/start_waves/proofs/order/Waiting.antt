-- The clusters of a table that wait are those that join the next wave and those that wait on. Assumes nothing.
use Prim.Native.Nat.{ℕ, ◌+◌}
use mathlib.Core.Path.{◌≡◌, refl, sym, ◌∙◌}
use mathlib.Core.Bool.{Bool, true, false, not, cond, ◌||◌}
use mathlib.Core.List.{List, [], ◌∷◌}
use mathlib.Core.Option.{some}
use native.Mathlib.Omega.{arith}
use lib.Dec.{eqb}
use lib.ListN.{length}
use borrow.Author.Tests.{eqb-true, eq-eqb}
use Rattle.base.proofs.Tests.{bool_cases, clash, none-some}
use Rattle.clusters.specs.Cluster.{Cluster}
use Rattle.clusters.specs.Table.{Table, find, rising_above}
use Rattle.clusters.proofs.Limits.{rising-says}
use Rattle.clusters.proofs.Equal.{find-low}
use Rattle.start_waves.specs.StartOrder.{WaveEntry, has_wave, select, add_wave, waiting}
use Rattle.start_waves.proofs.order.WaveLaws.{Numbered, has-added, OnlyWaiting}

select-count : (test : Cluster → Bool) (c : Cluster) (cs : List Cluster) → length (select test (c ∷ cs)) ≡ cond (test c) 1 0 + length (select test cs)
unfolding select
select-count test c cs = go (test c)
  where
    go : (b : Bool) → length (cond b (c ∷ select test cs) (select test cs)) ≡ cond b 1 0 + length (select test cs)
    go true = omega arith
    go false = omega arith

-- the cluster is found in the table by its part number
abbrev In : Cluster → Table → Type 0
In c t = find c.part t ≡ some c

found_first : (c : Cluster) (t : Table) → In c (c ∷ t)
unfolding find
found_first c t = rw (eq-eqb c.part c.part refl)

found-later : (c d : Cluster) (t : Table) → rising_above c.part t ≡ true → In d t → In d (c ∷ t)
unfolding find
found-later c d t h e =
    bool_cases (eqb d.part c.part) (λ z. none-some (sym (find-low d.part c.part t (omega (arith, eqb-true d.part c.part z)) h) ∙ e)) (λ z. rw z e)

-- a test of the clusters of a table that is one of two others, never both
select-counts : (either one other : Cluster → Bool) (last : ℕ) (t : Table) → rising_above last t ≡ true
    → ((c : Cluster) → In c t → cond (either c) 1 0 ≡ cond (one c) 1 0 + cond (other c) 1 0)
    → length (select either t) ≡ length (select one t) + length (select other t)
select-counts either one other last [] h each = unfold select in refl
select-counts either one other last (c ∷ t) h each =
    let r = rising-says last c t h in
    let ih = select-counts either one other c.part t r.rest (λ d e. each d (found-later c d t r.rest e)) in
    omega (arith, ih, each c (found_first c t), select-count either c t, select-count one c t, select-count other c t)

module _ (t : Table) (rising : rising_above 0 t ≡ true) where
  -- a cluster waits exactly if it joins now or waits on
  waits-on : (entries : List WaveEntry) (test : Cluster → Bool) → OnlyWaiting entries test → Numbered entries → (c : Cluster) → In c t
      → cond (waiting entries c) 1 0 ≡ cond (test c) 1 0 + cond (waiting (add_wave entries (select test t)) c) 1 0
  waits-on entries test only h c e =
      rw (has-added entries test c.part 0 t h rising, e) (go (has_wave entries c.part) (test c) (only c))
    where
      go : (a b : Bool) → (b ≡ true → not a ≡ true) → cond (not a) 1 0 ≡ cond b 1 0 + cond (not (a || b)) 1 0
      go true true apart = clash (apart refl) refl
      go true false apart = refl
      go false true apart = refl
      go false false apart = refl

  pub fewer-wait : (entries : List WaveEntry) (test : Cluster → Bool) → OnlyWaiting entries test → Numbered entries
      → length (select (waiting entries) t) ≡ length (select test t) + length (select (waiting (add_wave entries (select test t))) t)
  fewer-wait entries test only h = select-counts (waiting entries) test (waiting (add_wave entries (select test t))) 0 t rising (waits-on entries test only h)

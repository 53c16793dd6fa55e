-- "Every cluster is listed once.", and nothing else is; there are as many entries as clusters. Each wave keeps that a part number is
-- listed once where it has a wave and not where it has none, and that the entries and the clusters without a wave are as many as the
-- clusters: the clusters of a wave are those that no longer wait. Assumes nothing.
use Prim.Native.Nat.{ℕ, suc, ◌+◌}
use mathlib.Core.Path.{◌≡◌, refl, sym, ap, ◌∙◌}
use mathlib.Core.Bool.{Bool, true, false, cond, ◌||◌, false≢true, or-not_self}
use mathlib.Core.List.{List, [], ◌∷◌, ◌++◌, map}
use mathlib.Core.Option.{Option, none, some}
use native.Mathlib.Omega.{arith}
use lib.Dec.{eqb}
use lib.ListN.{length}
use borrow.Author.Tests.{eqb-true, not-true}
use Rattle.base.proofs.Tests.{or_cases, bool_cases, clash}
use Rattle.clusters.specs.Cluster.{Cluster}
use Rattle.clusters.specs.Table.{Table, find, rising_above, table_within}
use Rattle.clusters.proofs.Limits.{rising-says, rising-clusters}
use Rattle.clusters.proofs.Equal.{find-low}
use Rattle.start_waves.specs.StartOrder.{WaveEntry, wave_of, has_wave, next_wave, select, in_wave, add_wave, waiting, rounds, waves_before, closing, start_waves}
use Rattle.start_waves.specs.Listed.{numbered_before}
use Rattle.start_waves.specs.WaveClaims.{times_listed, is_cluster, present}
use Rattle.start_waves.proofs.order.RisingLaws.{found_part}
use Rattle.start_waves.proofs.order.WaveLaws.{Numbered, found_holds, has-added, still-numbered, OnlyWaiting, rounds-keep, waves-before-keep, all-waves-keep, length-added}
use Rattle.start_waves.proofs.order.Waiting.{fewer-wait}

-- ---- how often a part number is listed

module _ (part : ℕ) where
  times-append : (a b : List WaveEntry) → times_listed part (a ++ b) ≡ times_listed part a + times_listed part b
  unfolding times_listed
  times-append [] b = omega arith
  times-append (e ∷ a) b = omega (arith, times-append a b)

  -- among the clusters that a test takes out of a table
  times-selected : (test : Cluster → Bool) (k last : ℕ) (t : Table) → rising_above last t ≡ true
      → times_listed part (map (in_wave k) (select test t)) ≡ cond (found_holds test (find part t)) 1 0
  unfolding times_listed select find
  times-selected test k last [] h = refl
  times-selected test k last (c ∷ t) h =
      go (test c) (eqb part c.part) refl refl (times-selected test k c.part t (rising-says last c t h).rest)
    where
      -- the part number of the first is not found again
      once : eqb part c.part ≡ true → found_holds test (find part t) ≡ false
      once e = ap (found_holds test) (find-low part c.part t (omega (arith, eqb-true part c.part e)) (rising-says last c t h).rest)

      go : (b same : Bool) → test c ≡ b → eqb part c.part ≡ same → times_listed part (map (in_wave k) (select test t)) ≡ cond (found_holds test (find part t)) 1 0
          → times_listed part (map (in_wave k) (cond b (c ∷ select test t) (select test t))) ≡ cond (found_holds test (cond same (some c) (find part t))) 1 0
      go true true b e ih = rw (e, b) (omega (arith, rw (once e) at ih))
      go true false b e ih = rw e (omega (arith, ih))
      go false true b e ih = rw b (rw (once e) at ih)
      go false false b e ih = ih

-- ---- listed once

-- of two that never hold together
count-either : (a b : Bool) → (b ≡ true → a ≡ false) → cond a 1 0 + cond b 1 0 ≡ cond (a || b) 1 0
count-either true true apart = clash refl (apart refl)
count-either true false apart = refl
count-either false b apart = omega arith

-- listed once where it has a wave; only what the table has a cluster for has one
record Once (t : Table) (part : ℕ) (entries : List WaveEntry) : Type 0 where
  numbered : Numbered entries
  once : times_listed part entries ≡ cond (has_wave entries part) 1 0
  here : has_wave entries part ≡ true → present t part ≡ true

module _ (t : Table) (within : table_within t ≡ true) (part : ℕ) where
  found-waits : (entries : List WaveEntry) (test : Cluster → Bool) → OnlyWaiting entries test
      → (found : Option Cluster) → find part t ≡ found → found_holds test found ≡ true → has_wave entries part ≡ false
  found-waits entries test only none e h = absurd (false≢true h)
  found-waits entries test only (some c) e h = ap (has_wave entries) (sym (found_part part t c e)) ∙ not-true (has_wave entries c.part) (only c h)

  found_here : (test : Cluster → Bool) (found : Option Cluster) → found_holds test found ≡ true → is_cluster found ≡ true
  found_here test none h = h
  found_here test (some c) h = refl

  times-added : (entries : List WaveEntry) (test : Cluster → Bool)
      → times_listed part (add_wave entries (select test t)) ≡ times_listed part entries + cond (found_holds test (find part t)) 1 0
  unfolding add_wave
  times-added entries test =
      times-append part entries _ ∙ ap (λ (n : ℕ). times_listed part entries + n) (times-selected part test (next_wave entries) 0 t (rising-clusters t within))

  wave-kept : (entries : List WaveEntry) (test : Cluster → Bool) → OnlyWaiting entries test → Once t part entries → Once t part (add_wave entries (select test t))
  wave-kept entries test only h =
      let has = has-added entries test part 0 t h.numbered (rising-clusters t within) in
      record {
        numbered = still-numbered entries (select test t) h.numbered;
        once =
            times-added entries test ∙ ap (λ (n : ℕ). n + cond (found_holds test (find part t)) 1 0) h.once
            ∙ count-either (has_wave entries part) _ (found-waits entries test only (find part t) refl) ∙ ap (λ (b : Bool). cond b 1 0) (sym has);
        here = λ e. or_cases (has_wave entries part) _ (sym has ∙ e) h.here (found_here test (find part t));
      }

  none_yet : Once t part []
  unfolding numbered_before times_listed wave_of
  none_yet = record { numbered = refl; once = refl; here = λ e. absurd (false≢true e) }

  before : Once t part (waves_before t)
  before = waves-before-keep t (Once t part) wave-kept none_yet

  -- what has no wave before the closing one gets this
  closes-or-not : (found : Option Cluster) → find part t ≡ found → has_wave (waves_before t) part || found_holds (waiting (waves_before t)) found ≡ is_cluster found
  closes-or-not none e =
      bool_cases (has_wave (waves_before t) part) (λ z. absurd (false≢true (sym (ap is_cluster e) ∙ before.here z))) (λ z. rw z)
  closes-or-not (some c) e = rw (found_part part t c e) (or-not_self (has_wave (waves_before t) part))

  -- each cluster has a wave, and nothing else has one
  has-wave : has_wave (start_waves t) part ≡ present t part
  unfolding start_waves closing
  has-wave = has-added (waves_before t) _ part 0 t before.numbered (rising-clusters t within) ∙ closes-or-not (find part t) refl

  pub listed-once : times_listed part (start_waves t) ≡ cond (present t part) 1 0
  listed-once = (all-waves-keep t (Once t part) wave-kept none_yet).once ∙ ap (λ (b : Bool). cond b 1 0) has-wave

-- ---- as many entries as clusters

-- the entries and the clusters without a wave are as many as the clusters
pub record Counted (t : Table) (entries : List WaveEntry) : Type 0 where
  pub numbered : Numbered entries
  pub all_here : length entries + length (select (waiting entries) t) ≡ length t

module _ (t : Table) (within : table_within t ≡ true) where
  pub wave-counted : (entries : List WaveEntry) (test : Cluster → Bool) → OnlyWaiting entries test → Counted t entries → Counted t (add_wave entries (select test t))
  wave-counted entries test only h =
      let fewer = fewer-wait t (rising-clusters t within) entries test only h.numbered in
      record {
        numbered = still-numbered entries (select test t) h.numbered;
        all_here = omega (arith, h.all_here, length-added entries (select test t), fewer);
      }

  all-wait : (u : Table) → length (select (waiting []) u) ≡ length u
  unfolding select wave_of
  all-wait [] = refl
  all-wait (c ∷ u) = ap suc (all-wait u)

  pub none-counted : Counted t []
  unfolding numbered_before
  none-counted = record { numbered = refl; all_here = omega (arith, all-wait t) }

  rounds-counted : (more : ℕ) → Counted t (rounds more t [])
  rounds-counted more = rounds-keep t (Counted t) wave-counted more [] none-counted

  pub all_listed : length (start_waves t) ≡ length t
  unfolding start_waves closing waves_before
  all_listed = length-added (waves_before t) _ ∙ (rounds-counted (length t)).all_here

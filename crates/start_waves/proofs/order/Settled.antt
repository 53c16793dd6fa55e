-- As many rounds as a table has clusters are enough: a further round places none. Each round that places a cluster leaves fewer waiting, and
-- a round that places none gives the same entries. The measure is the number of waiting clusters. Assumes nothing.
use Prim.Native.Nat.{ℕ, zero, suc, ◌+◌, ◌<◌, ◌≤◌}
use mathlib.Core.Path.{◌≡◌, refl, sym, ap, ◌∙◌}
use mathlib.Core.Bool.{Bool, true, false, cond, ◌||◌}
use mathlib.Core.List.{List, [], ◌∷◌}
use mathlib.Core.Option.{Option, none, some}
use native.Mathlib.Omega.{arith}
use lib.Dec.{ltb}
use lib.ListN.{length}
use borrow.Author.Tests.{lt-ltb}
use Rattle.base.proofs.Tests.{and_left, bool_cases, cond-true, cond-false}
use Rattle.clusters.specs.Cluster.{Cluster}
use Rattle.clusters.specs.Table.{Table, find, rising_above, table_within}
use Rattle.clusters.proofs.Limits.{rising-clusters}
use Rattle.start_waves.specs.StartOrder.{WaveEntry, wave_of, has_wave, next_wave, select, add_wave, startable, waiting, starts_next, round, rounds, waves_before}
use Rattle.start_waves.specs.Listed.{numbered_before}
use Rattle.start_waves.proofs.order.SelectLaws.{select-few}
use Rattle.start_waves.proofs.order.RisingLaws.{found_part}
use Rattle.start_waves.proofs.order.WaveLaws.{Numbered, next-from-one, no-wave, one-wave-more, still-numbered, wave_where, wave-added}
use Rattle.start_waves.proofs.order.Waiting.{fewer-wait}

-- ---- one wave more, of the clusters that a test takes out of a rising table

module _ (t : Table) (rising : rising_above 0 t ≡ true) (entries : List WaveEntry) (numbered : Numbered entries) (part : ℕ) where
  module _ (test : Cluster → Bool) where
    -- a wave stays
    pub wave-stays : has_wave entries part ≡ true → wave_of part (add_wave entries (select test t)) ≡ wave_of part entries
    wave-stays e = wave-added entries test part 0 t numbered rising ∙ cond-true _ _ e

    -- who has none gets the next where the test holds
    pub wave-given : has_wave entries part ≡ false → wave_of part (add_wave entries (select test t)) ≡ wave_where test (next_wave entries) (find part t)
    wave-given e = wave-added entries test part 0 t numbered rising ∙ cond-false _ _ e

  -- a wave that a round gave earlier stays
  pub round_keeps : has_wave entries part ≡ true → wave_of part (round t entries) ≡ wave_of part entries
  unfolding round
  round_keeps e = wave-stays (starts_next entries) e

  -- a round gives the next wave to who has none and can start
  pub round-gives : (c : Cluster) → has_wave entries part ≡ false → find part t ≡ some c
      → wave_of part (round t entries) ≡ cond (startable entries c) (next_wave entries) 0
  unfolding round
  round-gives c e f =
      let own : has_wave entries c.part ≡ false = rw (found_part part t c f) e in
      wave-given (starts_next entries) e ∙ rw (f, own)

  -- a wave that a round gave is the next
  pub round-new : has_wave entries part ≡ false → 0 < wave_of part (round t entries) → wave_of part (round t entries) ≡ next_wave entries
  unfolding round
  round-new e l =
      let given = wave-given (starts_next entries) e in
      given ∙ go (find part t) (omega (arith, given))
    where
      go : (found : Option Cluster) → 0 < wave_where (starts_next entries) (next_wave entries) found
          → wave_where (starts_next entries) (next_wave entries) found ≡ next_wave entries
      go none h = absurd (omega arith)
      go (some c) h = pick (starts_next entries c) h
        where
          pick : (b : Bool) → 0 < cond b (next_wave entries) 0 → cond b (next_wave entries) 0 ≡ next_wave entries
          pick true k = refl
          pick false k = absurd (omega arith)

  -- so after a round those have a wave who had one, and those who could start
  pub round-has : (c : Cluster) → find part t ≡ some c → has_wave (round t entries) part ≡ has_wave entries part || startable entries c
  round-has c f =
      bool_cases (has_wave entries part) (λ e. rw (round_keeps e, e))
      λ e. rw (round-gives c e f, e) (go (startable entries c) (next_wave entries) (next-from-one entries))
    where
      go : (b : Bool) (k : ℕ) → 1 ≤ k → ltb 0 (cond b k 0) ≡ b
      go true k l = lt-ltb 0 k l
      go false k l = refl

  -- who is not found gets none
  pub round-passes : has_wave entries part ≡ false → find part t ≡ none → wave_of part (round t entries) ≡ 0
  unfolding round
  round-passes e f = wave-given (starts_next entries) e ∙ rw f

-- ---- the rounds end

module _ (t : Table) (entries : List WaveEntry) where
  -- a round gives the same entries, or it gives some clusters the next wave
  pub round-cases : {X : Type 0} → (round t entries ≡ entries → X)
      → (next_wave (round t entries) ≡ next_wave entries + 1 → 1 ≤ length (select (starts_next entries) t) → X) → X
  unfolding round
  round-cases {X} same more = go (select (starts_next entries) t) refl
    where
      go : (cs : List Cluster) → select (starts_next entries) t ≡ cs → X
      go [] e = same (rw e (no-wave entries))
      go (c ∷ cs) e = more (rw e (one-wave-more entries c cs)) (omega (arith, ap length e))

  pub round-numbered : Numbered entries → Numbered (round t entries)
  unfolding round
  round-numbered = still-numbered entries (select (starts_next entries) t)

  pub rounds-unchanged : (k : ℕ) → round t entries ≡ entries → rounds k t entries ≡ entries
  unfolding rounds
  rounds-unchanged zero e = refl
  rounds-unchanged (suc k) e = ap (rounds k t) e ∙ rounds-unchanged k e

  -- how many have no wave
  abbrev waiting_count : ℕ
  waiting_count = length (select (waiting entries) t)

module _ (t : Table) (rising : rising_above 0 t ≡ true) where
  -- a round takes those whom it gives a wave out of the waiting ones
  round-count : (entries : List WaveEntry) → Numbered entries
      → length (select (starts_next entries) t) + waiting_count t (round t entries) ≡ waiting_count t entries
  unfolding round
  round-count entries numbered = sym (fewer-wait t rising entries (starts_next entries) (λ c e. and_left (waiting entries c) (startable entries c) e) numbered)

  rounds-settle : (k : ℕ) (entries : List WaveEntry) → Numbered entries → waiting_count t entries ≤ k → round t (rounds k t entries) ≡ rounds k t entries
  unfolding rounds
  rounds-settle zero entries numbered few = round-cases t entries (λ same. same) λ next placed. absurd (omega (arith, round-count entries numbered))
  rounds-settle (suc k) entries numbered few =
      round-cases t entries (λ same. rw (same, rounds-unchanged t entries k same) same)
      λ next placed. rounds-settle k (round t entries) (round-numbered t entries numbered) (omega (arith, round-count entries numbered))

module _ (t : Table) (within : table_within t ≡ true) where
  -- a round more changes nothing
  pub settled : round t (waves_before t) ≡ waves_before t
  unfolding waves_before numbered_before
  settled = rounds-settle t (rising-clusters t within) (length t) [] refl (select-few (waiting []) t)

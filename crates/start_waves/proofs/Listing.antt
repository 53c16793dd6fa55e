-- The loop over the rounds. What it keeps: the entries so far are in the arrays and in the buffer, and from them the rounds that are left give
-- all waves before the closing one. A round that lists none is the last, and then the rest close; with every cluster listed none is left.
-- Assumes nothing.
use Prim.Native.Nat.{ℕ, zero, suc, ◌+◌, ◌≤◌}
use mathlib.Core.Path.{◌≡◌, refl, sym, ap, ◌∙◌}
use mathlib.Core.Bool.{true, false, and-true}
use mathlib.Core.List.{List, [], ◌∷◌}
use native.Mathlib.Omega.{arith}
use lib.ListN.{length, take, replicate, get_or-replicate}
use lib.Seq.{sets}
use Rattle.base.proofs.Tests.{and_left}
use Rattle.clusters.specs.Cluster.{Cluster}
use Rattle.clusters.specs.Table.{Table, table_within, clusters_most}
use Rattle.clusters.proofs.Limits.{few-clusters, rising-clusters}
use Rattle.start_waves.specs.declared.rounds.Started.{Started}
use Rattle.start_waves.specs.StartOrder.{WaveEntry, wave_of, next_wave, number_behind, select, add_wave, waiting, starts_next, round, rounds, waves_before, closing, start_waves}
use Rattle.start_waves.specs.WavesReport.{numbers_of}
use Rattle.start_waves.specs.Listed.{ArraysOf, joins, numbered_before, without_wave, reached, Listed}
use Rattle.start_waves.proofs.order.SelectLaws.{select-same}
use Rattle.start_waves.proofs.order.WaveLaws.{no-wave, length-added, one-wave-more}
use Rattle.start_waves.proofs.order.Waiting.{fewer-wait}
use Rattle.start_waves.proofs.order.ListedOnce.{Counted, wave-counted, none-counted}
use Rattle.start_waves.proofs.order.Settled.{rounds-unchanged, settled}

-- ---- where nothing is listed

all_without : (n k : ℕ) → k ≤ n → without_wave (take k (replicate n 0)) ≡ k
unfolding without_wave
all_without n zero h = refl
all_without zero (suc k) h = absurd (omega arith)
all_without (suc n) (suc k) h = omega (arith, all_without n k (omega arith))

abbrev pub none_started : Started
none_started = record { waves = replicate clusters_most 0; count = 0 }

-- ---- what is listed so far, of a table

pub record Reached (t : Table) (started : Started) (number : ℕ) (old new : List ℕ) : Type 0 where
  pub entries : List WaveEntry
  pub left : ℕ
  pub whole : waves_before t ≡ rounds left t entries
  pub counted : Counted t entries
  pub next : number ≡ next_wave entries
  pub listed : Listed t entries started old new

pub numbered-so-far : (t : Table) (started : Started) (number : ℕ) (old new : List ℕ) (so_far : Reached t started number old new)
    → numbered_before number so_far.entries ≡ true
numbered-so-far t started number old new so_far = rw so_far.next so_far.counted.numbered

empty-list : {A : Type 0} (l : List A) → length l ≡ 0 → l ≡ []
empty-list [] e = refl
empty-list (x ∷ l) e = absurd (omega arith)

module _ (t : Table) (within : table_within t ≡ true) where
  none-reached : (old : List ℕ) → Reached t none_started 1 old old
  unfolding waves_before number_behind wave_of numbers_of
  none-reached old =
      record {
        entries = [];
        left = length t;
        whole = refl;
        counted = none-counted t within;
        next = refl;
        listed = record { counted = refl; only = λ part f. refl; waved = λ i h. get_or-replicate clusters_most i 0 0 (omega (arith, few-clusters t within)); written = refl };
      }

  -- the rounds that are left, after one more
  fewer-left : (left : ℕ) (entries : List WaveEntry) → waves_before t ≡ rounds left t entries → (more : ℕ) × (waves_before t ≡ rounds more t (round t entries))
  unfolding rounds
  fewer-left zero entries e = (0, sym (settled t within) ∙ ap (round t) e)
  fewer-left (suc left) entries e = (left, e)

  -- the waves before the closing one, and all that have none behind them
  all-waves : (entries : List WaveEntry) → waves_before t ≡ entries → start_waves t ≡ add_wave entries (select (waiting entries) t)
  unfolding start_waves closing
  all-waves entries e = ap (λ (l : List WaveEntry). add_wave l (select (waiting l) t)) e

  -- every cluster is listed
  pub none_left : (started : Started) (number : ℕ) (old new : List ℕ) → Reached t started number old new → length t ≤ started.count
      → new ≡ sets old 0 (numbers_of (start_waves t))
  unfolding round
  none_left started number old new so_far h =
      let waits : select (waiting so_far.entries) t ≡ [] = empty-list _ (omega (arith, so_far.counted.all_here, so_far.listed.counted)) in
      let starts : select (starts_next so_far.entries) t ≡ [] =
      empty-list _
      (omega (
        arith,
        ap length waits,
        fewer-wait t (rising-clusters t within) so_far.entries (starts_next so_far.entries)
            (λ c e. and_left (waiting so_far.entries c) _ e) so_far.counted.numbered,
      )) in
      let before : waves_before t ≡ so_far.entries =
      so_far.whole ∙ rounds-unchanged t so_far.entries so_far.left (ap (add_wave so_far.entries) starts ∙ no-wave so_far.entries) in
      so_far.listed.written
      ∙ ap (λ (l : List WaveEntry). sets old 0 (numbers_of l)) (sym (all-waves so_far.entries before ∙ ap (add_wave so_far.entries) waits ∙ no-wave so_far.entries))

  -- what a round listed, in the arrays
  module _ (started after : Started) (number : ℕ) (old new then : List ℕ) (so_far : Reached t started number old new)
      (listed : Listed t (add_wave so_far.entries (select (joins false so_far.entries) t)) after old then) where
    abbrev joined : List Cluster
    joined = select (starts_next so_far.entries) t

    count-more : after.count ≡ started.count + length joined
    count-more = listed.counted ∙ length-added so_far.entries joined ∙ ap (λ (n : ℕ). n + length joined) (sym so_far.listed.counted)

    -- some were listed
    pub one-round-more : (after.count ≡ started.count → ⊥) → Reached t after (number + 1) old then
    unfolding round
    one-round-more some =
        let fewer = fewer-left so_far.left so_far.entries so_far.whole in
        record {
          entries = round t so_far.entries;
          left = fewer.0;
          whole = fewer.1;
          counted = wave-counted t within so_far.entries (starts_next so_far.entries) (λ c e. and_left (waiting so_far.entries c) _ e) so_far.counted;
          next = next joined refl;
          listed = listed;
        }
      where
        next : (cs : List Cluster) → joined ≡ cs → number + 1 ≡ next_wave (add_wave so_far.entries joined)
        next [] e = absurd (some (omega (arith, count-more, ap length e)))
        next (c ∷ cs) e = rw e (sym (one-wave-more so_far.entries c cs ∙ ap (λ (n : ℕ). n + 1) (sym so_far.next)))

    -- none was listed, so the rest close
    module _ (none : after.count ≡ started.count) where
      same-round : add_wave so_far.entries joined ≡ so_far.entries
      same-round = ap (add_wave so_far.entries) (empty-list joined (omega (arith, count-more))) ∙ no-wave so_far.entries

      all-before : waves_before t ≡ so_far.entries
      unfolding round
      all-before = so_far.whole ∙ rounds-unchanged t so_far.entries so_far.left same-round

      pub still-listed : Listed t so_far.entries after old then
      still-listed = rw same-round at listed

      -- what the closing wave listed behind them
      pub rest-closed : (last : Started) (final : List ℕ) → Listed t (add_wave so_far.entries (select (joins true so_far.entries) t)) last old final
          → final ≡ sets old 0 (numbers_of (start_waves t))
      rest-closed last final closed =
          closed.written
          ∙ ap (λ (cs : List Cluster). sets old 0 (numbers_of (add_wave so_far.entries cs)))
          (select-same (joins true so_far.entries) (waiting so_far.entries) t (λ c. and-true (waiting so_far.entries c)))
          ∙ ap (λ (l : List WaveEntry). sets old 0 (numbers_of l)) (sym (all-waves so_far.entries all-before))

-- ---- the loop

pub record Listing (parts waits : List ℕ) (size : ℕ) (started : Started) (number : ℕ) (old new : List ℕ) : Type 0 where
  pub lent : length new ≡ length old
  pub all_fit : reached started size ≡ size
  pub one : 1 ≤ number
  pub few : number ≤ started.count + 1
  pub lists : (t : Table) → ArraysOf parts waits size t → Reached t started number old new

pub listing_begins : (parts waits : List ℕ) (size : ℕ) (old : List ℕ) → size ≤ clusters_most → Listing parts waits size none_started 1 old old
listing_begins parts waits size old h =
    record {
      lent = refl;
      all_fit = omega (arith, all_without clusters_most size h);
      one = omega arith;
      few = omega arith;
      lists = λ t of. none-reached t of.within old;
    }

-- The wave of a part number in a list of entries: behind entries that are numbered from 1, and among the clusters of a table that a test
-- takes out. Also how waves are numbered, and what holds of all waves of a table since each wave keeps it. Assumes nothing.
use Prim.Native.Nat.{ℕ, zero, suc, ◌+◌, ◌<◌, ◌≤◌}
use mathlib.Core.Path.{◌≡◌, refl, sym, ap, ◌∙◌}
use mathlib.Core.Bool.{Bool, true, false, cond, ◌&&◌, ◌||◌}
use mathlib.Core.List.{List, [], ◌∷◌, ◌++◌, map, append-nil}
use mathlib.Core.Option.{Option, none, some}
use native.Mathlib.Omega.{arith}
use lib.Dec.{eqb, ltb}
use lib.ListN.{length, length-append, length-map}
use borrow.Author.Tests.{ltb-true, lt-ltb, eqb-true}
use Rattle.base.proofs.Tests.{and_left, and_right, and_both, cond_cases}
use Rattle.clusters.specs.Cluster.{Cluster}
use Rattle.clusters.specs.Table.{Table, find, rising_above}
use Rattle.clusters.proofs.Limits.{rising-says}
use Rattle.clusters.proofs.Equal.{find-low}
use Rattle.start_waves.specs.StartOrder.{WaveEntry, wave_of, has_wave, number_behind, next_wave, select, in_wave, add_wave, waiting, startable, round, rounds, waves_before, closing, start_waves}
use Rattle.start_waves.specs.Listed.{numbered_before}

-- ---- numbered from 1

-- the waves are numbered from 1, all before the next
abbrev pub Numbered : List WaveEntry → Type 0
Numbered entries = numbered_before (next_wave entries) entries ≡ true

module _ (number : ℕ) where
  pub numbered-append : (a b : List WaveEntry) → numbered_before number a ≡ true → numbered_before number b ≡ true → numbered_before number (a ++ b) ≡ true
  unfolding numbered_before
  numbered-append [] b h k = k
  numbered-append (e ∷ a) b h k =
      and_both (ltb 0 e.wave && ltb e.wave number) (numbered_before number (a ++ b)) (and_left _ (numbered_before number a) h)
      (numbered-append a b (and_right (ltb 0 e.wave && ltb e.wave number) (numbered_before number a) h) k)

  pub numbered-wave : (k : ℕ) (cs : List Cluster) → 1 ≤ k → k < number → numbered_before number (map (in_wave k) cs) ≡ true
  unfolding numbered_before
  numbered-wave k [] l h = refl
  numbered-wave k (c ∷ cs) l h =
      and_both (ltb 0 k && ltb k number) (numbered_before number (map (in_wave k) cs)) (and_both (ltb 0 k) (ltb k number) (lt-ltb 0 k (omega arith)) (lt-ltb k number h))
      (numbered-wave k cs l h)

  -- the wave of a part number is before the number too; 0 where it has none
  pub wave-before : (part : ℕ) (entries : List WaveEntry) → 1 ≤ number → numbered_before number entries ≡ true → wave_of part entries < number
  unfolding numbered_before wave_of
  wave-before part [] l h = omega arith
  wave-before part (e ∷ entries) l h =
      let own : ltb 0 e.wave && ltb e.wave number ≡ true = and_left _ (numbered_before number entries) h in
      let further : wave_of part entries < number = wave-before part entries l (and_right (ltb 0 e.wave && ltb e.wave number) (numbered_before number entries) h) in
      cond_cases (λ (w : ℕ). w < number) (eqb part e.part) _ _ (λ z. ltb-true e.wave number (and_right (ltb 0 e.wave) _ own)) λ z. further

  -- behind entries that are numbered from 1
  pub wave-behind : (part : ℕ) (a b : List WaveEntry) → numbered_before number a ≡ true
      → wave_of part (a ++ b) ≡ cond (has_wave a part) (wave_of part a) (wave_of part b)
  unfolding numbered_before wave_of
  wave-behind part [] b h = refl
  wave-behind part (e ∷ a) b h =
      go (eqb part e.part) (ltb 0 e.wave) refl
      (and_left (ltb 0 e.wave) (ltb e.wave number) (and_left (ltb 0 e.wave && ltb e.wave number) (numbered_before number a) h))
      (wave-behind part a b (and_right (ltb 0 e.wave && ltb e.wave number) (numbered_before number a) h))
    where
      go : (same from_one : Bool) → ltb 0 e.wave ≡ from_one → from_one ≡ true
          → wave_of part (a ++ b) ≡ cond (ltb 0 (wave_of part a)) (wave_of part a) (wave_of part b)
          → cond same e.wave (wave_of part (a ++ b))
          ≡ cond (ltb 0 (cond same e.wave (wave_of part a))) (cond same e.wave (wave_of part a)) (wave_of part b)
      go true from_one z one ih = rw (z ∙ one)
      go false from_one z one ih = ih

pub numbered_more : (n m : ℕ) (entries : List WaveEntry) → n ≤ m → numbered_before n entries ≡ true → numbered_before m entries ≡ true
unfolding numbered_before
numbered_more n m [] l h = refl
numbered_more n m (e ∷ entries) l h =
    let own : ltb 0 e.wave && ltb e.wave n ≡ true = and_left _ (numbered_before n entries) h in
    and_both (ltb 0 e.wave && ltb e.wave m) (numbered_before m entries)
    (and_both (ltb 0 e.wave) (ltb e.wave m) (and_left (ltb 0 e.wave) (ltb e.wave n) own) (lt-ltb e.wave m (omega (arith, ltb-true e.wave n (and_right (ltb 0 e.wave) _ own)))))
    (numbered_more n m entries l (and_right (ltb 0 e.wave && ltb e.wave n) (numbered_before n entries) h))

-- ---- the next number

numbers_on : (last k : ℕ) (c : Cluster) (cs : List Cluster) → number_behind last (map (in_wave k) (c ∷ cs)) ≡ k + 1
unfolding number_behind
numbers_on last k c [] = refl
numbers_on last k c (d ∷ cs) = numbers_on k k d cs

numbers-behind : (last : ℕ) (a : List WaveEntry) (k : ℕ) (c : Cluster) (cs : List Cluster) → number_behind last (a ++ map (in_wave k) (c ∷ cs)) ≡ k + 1
unfolding number_behind
numbers-behind last [] k c cs = numbers_on last k c cs
numbers-behind last (e ∷ a) k c cs = numbers-behind e.wave a k c cs

from_one : (last : ℕ) (entries : List WaveEntry) → 1 ≤ number_behind last entries
unfolding number_behind
from_one last [] = omega arith
from_one last (e ∷ entries) = from_one e.wave entries

module _ (entries : List WaveEntry) where
  -- "wave numbers from 1"
  pub next-from-one : 1 ≤ next_wave entries
  next-from-one = from_one 0 entries

  -- a wave with no cluster is no wave
  pub no-wave : add_wave entries [] ≡ entries
  unfolding add_wave
  no-wave = append-nil entries

  pub length-added : (cs : List Cluster) → length (add_wave entries cs) ≡ length entries + length cs
  unfolding add_wave
  length-added cs = length-append entries _ ∙ ap (λ (n : ℕ). length entries + n) (length-map cs (in_wave (next_wave entries)))

  -- a wave with a cluster is the next one
  pub one-wave-more : (c : Cluster) (cs : List Cluster) → next_wave (add_wave entries (c ∷ cs)) ≡ next_wave entries + 1
  unfolding add_wave
  one-wave-more c cs = numbers-behind 0 entries (next_wave entries) c cs

  pub still-numbered : (cs : List Cluster) → Numbered entries → Numbered (add_wave entries cs)
  unfolding add_wave
  still-numbered [] h = rw (append-nil entries) h
  still-numbered (c ∷ cs) h =
      rw (numbers-behind 0 entries (next_wave entries) c cs)
      (numbered-append (next_wave entries + 1) entries _ (numbered_more (next_wave entries) (next_wave entries + 1) entries (omega arith) h)
      (numbered-wave (next_wave entries + 1) (next_wave entries) (c ∷ cs) next-from-one (omega arith)))

-- ---- the clusters that a test takes out of a table

-- the number where the cluster was found and the test holds of it, 0 elsewhere
abbrev pub wave_where : (Cluster → Bool) → ℕ → Option Cluster → ℕ
wave_where test k none = 0
wave_where test k (some c) = cond (test c) k 0

pub wave-selected : (test : Cluster → Bool) (k part last : ℕ) (t : Table) → rising_above last t ≡ true
    → wave_of part (map (in_wave k) (select test t)) ≡ wave_where test k (find part t)
unfolding wave_of select find
wave-selected test k part last [] h = refl
wave-selected test k part last (c ∷ t) h =
    go (test c) (eqb part c.part) refl refl (wave-selected test k part c.part t (rising-says last c t h).rest)
  where
    -- the part number of the first is not found again
    once : eqb part c.part ≡ true → find part t ≡ none
    once e = find-low part c.part t (omega (arith, eqb-true part c.part e)) (rising-says last c t h).rest

    go : (b same : Bool) → test c ≡ b → eqb part c.part ≡ same → wave_of part (map (in_wave k) (select test t)) ≡ wave_where test k (find part t)
        → wave_of part (map (in_wave k) (cond b (c ∷ select test t) (select test t))) ≡ wave_where test k (cond same (some c) (find part t))
    go true true b e ih = rw (e, b)
    go true false b e ih = rw e ih
    go false true b e ih = rw b (ih ∙ ap (wave_where test k) (once e))
    go false false b e ih = ih

-- the wave of a part number behind one wave more, of the clusters that a test takes out of a table
pub wave-added : (entries : List WaveEntry) (test : Cluster → Bool) (part last : ℕ) (t : Table) → Numbered entries → rising_above last t ≡ true
    → wave_of part (add_wave entries (select test t)) ≡ cond (has_wave entries part) (wave_of part entries) (wave_where test (next_wave entries) (find part t))
unfolding add_wave
wave-added entries test part last t h rising =
    wave-behind (next_wave entries) part entries _ h
    ∙ ap (cond (has_wave entries part) (wave_of part entries)) (wave-selected test (next_wave entries) part last t rising)

-- a cluster was found and the test holds of it
abbrev pub found_holds : (Cluster → Bool) → Option Cluster → Bool
found_holds test none = false
found_holds test (some c) = test c

-- what has a wave behind one wave more
pub has-added : (entries : List WaveEntry) (test : Cluster → Bool) (part last : ℕ) (t : Table) → Numbered entries → rising_above last t ≡ true
    → has_wave (add_wave entries (select test t)) part ≡ has_wave entries part || found_holds test (find part t)
has-added entries test part last t h rising =
    ap (λ (w : ℕ). ltb 0 w) (wave-added entries test part last t h rising) ∙ go (has_wave entries part) refl (find part t)
  where
    go : (b : Bool) → has_wave entries part ≡ b → (found : Option Cluster)
        → ltb 0 (cond b (wave_of part entries) (wave_where test (next_wave entries) found)) ≡ b || found_holds test found
    go true e found = e
    go false e none = refl
    go false e (some c) = cond_cases (λ (w : ℕ). ltb 0 w ≡ test c) (test c) _ _ (λ z. lt-ltb 0 (next_wave entries) (omega (arith, next-from-one entries)) ∙ sym z) λ z. sym z

-- ---- all waves of a table

-- the test holds only of clusters without a wave
abbrev pub OnlyWaiting : List WaveEntry → (Cluster → Bool) → Type 0
OnlyWaiting entries test = (c : Cluster) → test c ≡ true → waiting entries c ≡ true

-- what each wave keeps, of clusters of the table without a wave, holds of them all
module _ (t : Table) (P : List WaveEntry → Type 0) (kept : (entries : List WaveEntry) (test : Cluster → Bool) → OnlyWaiting entries test → P entries → P (add_wave entries (select test t))) where
  pub rounds-keep : (more : ℕ) (entries : List WaveEntry) → P entries → P (rounds more t entries)
  unfolding rounds round
  rounds-keep zero entries h = h
  rounds-keep (suc more) entries h = rounds-keep more _ (kept entries _ (λ c e. and_left (waiting entries c) (startable entries c) e) h)

  pub waves-before-keep : P [] → P (waves_before t)
  unfolding waves_before
  waves-before-keep h = rounds-keep (length t) [] h

  pub all-waves-keep : P [] → P (start_waves t)
  unfolding start_waves closing
  all-waves-keep h = kept (waves_before t) _ (λ c e. e) (waves-before-keep h)

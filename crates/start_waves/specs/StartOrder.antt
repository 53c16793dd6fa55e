-- A.3: "Give the start waves", of a table. The least version of a need plays no part in them.
use Rattle.std.specs.Prelude.{ℕ, zero, suc, ◌+◌, Bool, true, not, cond, ◌&&◌, List, [], ◌∷◌, ◌++◌, map, eqb, ltb, length}
use Rattle.clusters.specs.declared.cluster.Need.{Need}
use Rattle.clusters.specs.Cluster.{Cluster}
use Rattle.clusters.specs.Table.{Table}

-- ---- the list

-- "part numbers with wave numbers from 1": an entry of the list
pub record WaveEntry : Type 0 where
  pub part : ℕ
  pub wave : ℕ

-- the wave of a part number in a list, 0 where it has none
unfoldable pub wave_of : ℕ → List WaveEntry → ℕ
wave_of part [] = 0
wave_of part (e ∷ entries) = cond (eqb part e.part) e.wave (wave_of part entries)

abbrev pub has_wave : List WaveEntry → ℕ → Bool
has_wave entries part = ltb 0 (wave_of part entries)

-- the number behind that of the last entry, or behind this one where there is none
unfoldable pub number_behind : ℕ → List WaveEntry → ℕ
number_behind last [] = last + 1
number_behind last (e ∷ entries) = number_behind e.wave entries

-- "wave numbers from 1": the number of the wave behind these
abbrev pub next_wave : List WaveEntry → ℕ
next_wave entries = number_behind 0 entries

-- the elements that a test holds of, in their order: "Within a wave the part number rises", as it does in a table
unfoldable pub select : {A : Type 0} → (A → Bool) → List A → List A
select test [] = []
select test (x ∷ xs) = let rest = select test xs in cond (test x) (x ∷ rest) rest

-- a cluster in the wave of this number
abbrev pub in_wave : ℕ → Cluster → WaveEntry
in_wave number c = record { part = c.part; wave = number }

-- these clusters in the wave behind the others
unfoldable pub add_wave : List WaveEntry → List Cluster → List WaveEntry
add_wave entries clusters = entries ++ map (in_wave (next_wave entries)) clusters

-- ---- the clusters of a wave

abbrev pub needed_part : Need → ℕ
needed_part n = n.part

-- "the others it needs; a need of itself counts for nothing": their part numbers
unfoldable pub others_needed : Cluster → List ℕ
others_needed c = select (λ part. not (eqb part c.part)) (map needed_part c.needs)

-- the test holds of each
unfoldable pub all : (ℕ → Bool) → List ℕ → Bool
all test [] = true
all test (part ∷ parts) = test part && all test parts

-- "after the waves of all the others it needs": all of them are in the waves so far
unfoldable pub startable : List WaveEntry → Cluster → Bool
startable entries c = all (has_wave entries) (others_needed c)

-- the cluster has no wave so far
abbrev pub waiting : List WaveEntry → Cluster → Bool
waiting entries c = not (has_wave entries c.part)

-- "A cluster belongs to the first wave that comes after the waves of all the others it needs"
abbrev pub starts_next : List WaveEntry → Cluster → Bool
starts_next entries c = waiting entries c && startable entries c

-- ---- the waves of a table

-- a round: one wave more, of the clusters that can start now. With none of these no wave is added
unfoldable pub round : Table → List WaveEntry → List WaveEntry
round t entries = add_wave entries (select (starts_next entries) t)

unfoldable pub rounds : ℕ → Table → List WaveEntry → List WaveEntry
rounds zero t entries = entries
rounds (suc more) t entries = rounds more t (round t entries)

-- the waves before the closing wave: as many rounds as there are clusters are enough
unfoldable pub waves_before : Table → List WaveEntry
waves_before t = rounds (length t) t []

-- "Clusters that get no wave this way, because of a circle of needs or an absent cluster"
unfoldable pub closing : Table → List Cluster
closing t = select (waiting (waves_before t)) t

-- they "form one closing wave", behind the others
unfoldable pub start_waves : Table → List WaveEntry
start_waves t = add_wave (waves_before t) (closing t)

-- the number of the closing wave
abbrev pub closing_wave : Table → ℕ
closing_wave t = next_wave (waves_before t)

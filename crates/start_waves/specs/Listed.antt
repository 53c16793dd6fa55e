-- What the rounds keep: the wave of each place, and the entries in the lent buffer.
use Rattle.std.specs.Prelude.{ℕ, ◌+◌, ◌*◌, ◌≤◌, ◌<◌, ◌≡◌, Bool, true, cond, ◌&&◌, ◌||◌, List, [], ◌∷◌, map, eqb, ltb, length, take, drop, get_or}
use Rattle.std.proofs.Math.Option.{none}
use Rattle.std.proofs.lemmas.List.Edits.{sets}
use Rattle.clusters.specs.Cluster.{Cluster, needs_most}
use Rattle.clusters.specs.Table.{Table, find, table_within, clusters_most}
use Rattle.clusters.specs.Place.{part_of}
use Rattle.start_waves.specs.declared.rounds.Started.{Started}
use Rattle.start_waves.specs.StartOrder.{WaveEntry, wave_of, next_wave, select, add_wave, waiting, all, startable, start_waves}
use Rattle.start_waves.specs.WavesReport.{numbers_of}
use Rattle.start_waves.specs.Waits.{cluster_at, WaitsOf, waits_most}

-- the arrays that the rounds go by have the room of a table, of so many clusters
abbrev pub ArraysFit : List ℕ → List ℕ → ℕ → Type 0
ArraysFit parts waits size = (size ≤ clusters_most) × (length parts ≡ clusters_most) × (length waits ≡ waits_most)

-- the arrays are those of a table within its limits: its part numbers, and the places that its clusters wait for
pub record ArraysOf (parts waits : List ℕ) (size : ℕ) (t : Table) : Type 0 where
  pub within : table_within t ≡ true
  pub sized : size ≡ length t
  pub parts-of : take size parts ≡ map part_of t
  pub waits-of : WaitsOf waits t size

-- a cluster joins the next wave, and the closing one whatever it needs
abbrev pub joins : Bool → List WaveEntry → Cluster → Bool
joins closing entries c = waiting entries c && (closing || startable entries c)

-- the waves of the entries are numbered from 1, all before this number
unfoldable pub numbered_before : ℕ → List WaveEntry → Bool
numbered_before number [] = true
numbered_before number (e ∷ entries) = (ltb 0 e.wave && ltb e.wave number) && numbered_before number entries

-- what stands at the place has a wave before this number
abbrev pub started_before : List ℕ → ℕ → ℕ → Bool
started_before waves place number = ltb place clusters_most && (ltb 0 (get_or waves place 0) && ltb (get_or waves place 0) number)

-- nothing is waited for at the place: it is the own one, or what stands there has a wave before this number
abbrev pub passes : List ℕ → ℕ → ℕ → ℕ → Bool
passes waves own number place = eqb place own || started_before waves place number

-- the places that the cluster at the place own waits for
abbrev pub waits_from : List ℕ → ℕ → List ℕ
waits_from waits own = take needs_most (drop (own * needs_most) waits)

-- the cluster at the place own has no wave, and it closes or waits for nothing
abbrev pub joins_at : Bool → List ℕ → List ℕ → ℕ → ℕ → Bool
joins_at closing waits waves own number = eqb (get_or waves own 0) 0 && (closing || all (passes waves own number) (waits_from waits own))

-- how many have no wave
unfoldable pub without_wave : List ℕ → ℕ
without_wave [] = 0
without_wave (wave ∷ waves) = cond (eqb wave 0) (without_wave waves + 1) (without_wave waves)

-- how many are listed, or may still be
abbrev pub reached : Started → ℕ → ℕ
reached started size = started.count + without_wave (take size started.waves)

-- the entries so far: how many, none of an absent cluster, the wave of each place, 0 for none, and their numbers in the buffer, which was
-- lent with the old values
pub record Listed (t : Table) (entries : List WaveEntry) (started : Started) (old new : List ℕ) : Type 0 where
  pub counted : started.count ≡ length entries
  pub only : (part : ℕ) → find part t ≡ none → wave_of part entries ≡ 0
  pub waved : (i : ℕ) → i < length t → get_or started.waves i 0 ≡ wave_of (cluster_at t i).part entries
  pub written : new ≡ sets old 0 (numbers_of entries)

-- ---- what the rounds do with the arrays, whichever table these are of

-- one wave more behind the entries so far, of the clusters that join
abbrev pub AddsWave : Bool → List ℕ → List ℕ → ℕ → ℕ → Started → Started → List ℕ → List ℕ → Type 0
AddsWave closing parts waits size number started after buffer buffer-after =
    (t : Table) (entries : List WaveEntry) (old : List ℕ) → ArraysOf parts waits size t → number ≡ next_wave entries
    → numbered_before number entries ≡ true → Listed t entries started old buffer
    → Listed t (add_wave entries (select (joins closing entries) t)) after old buffer-after

-- all waves, at the buffer's start
abbrev pub ListsWaves : List ℕ → List ℕ → ℕ → List ℕ → List ℕ → Type 0
ListsWaves parts waits size old new = (t : Table) → ArraysOf parts waits size t → new ≡ sets old 0 (numbers_of (start_waves t))

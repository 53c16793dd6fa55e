-- What A.3 says of the start waves of a table, as facts about them. proofs/Claims.antt has that they hold.
use Rattle.std.specs.Prelude.{ℕ, ◌+◌, ◌≤◌, max, ◌≡◌, Bool, true, false, cond, ◌&&◌, ◌||◌, List, [], ◌∷◌, eqb, ltb}
use Rattle.std.proofs.Math.Option.{Option, none, some}
use Rattle.clusters.specs.Cluster.{Cluster}
use Rattle.clusters.specs.Table.{Table, find}
use Rattle.start_waves.specs.StartOrder.{WaveEntry, wave_of, others_needed, all, start_waves, closing_wave}

-- ---- the list

-- "Every cluster is listed once.": how often a part number is listed
unfoldable pub times_listed : ℕ → List WaveEntry → ℕ
times_listed part [] = 0
times_listed part (e ∷ entries) = cond (eqb part e.part) 1 0 + times_listed part entries

abbrev pub is_cluster : Option Cluster → Bool
is_cluster none = false
is_cluster (some c) = true

-- the table has a cluster with the part number
abbrev pub present : Table → ℕ → Bool
present t part = is_cluster (find part t)

-- "Within a wave the part number rises."; a wave comes next, without a gap
abbrev pub follows : WaveEntry → WaveEntry → Bool
follows a b = cond (eqb b.wave a.wave) (ltb a.part b.part) (eqb b.wave (a.wave + 1))

unfoldable pub in_order_behind : WaveEntry → List WaveEntry → Bool
in_order_behind a [] = true
in_order_behind a (b ∷ entries) = follows a b && in_order_behind b entries

-- "wave numbers from 1"
unfoldable pub in_order : List WaveEntry → Bool
in_order [] = true
in_order (e ∷ entries) = eqb e.wave 1 && in_order_behind e entries

-- ---- the waves

-- the wave of a part number in the start waves of a table, 0 where it has none
abbrev pub start_wave : Table → ℕ → ℕ
start_wave t part = wave_of part (start_waves t)

-- "the clusters before the closing wave"
abbrev pub before_closing : Table → ℕ → Bool
before_closing t part = ltb 0 (start_wave t part) && ltb (start_wave t part) (closing_wave t)

-- the cluster is in the closing wave
abbrev pub in_closing : Table → ℕ → Bool
in_closing t part = eqb (start_wave t part) (closing_wave t)

-- the largest number that part numbers have, 0 with none
unfoldable pub largest : (ℕ → ℕ) → List ℕ → ℕ
largest number [] = 0
largest number (part ∷ parts) = max (number part) (largest number parts)

-- the test holds of one
unfoldable pub any : (ℕ → Bool) → List ℕ → Bool
any test [] = false
any test (part ∷ parts) = test part || any test parts

-- "the first wave that comes after the waves of all the others it needs", which have waves of their own before the closing one
pub record InFirstWave (t : Table) (c : Cluster) : Type 0 where
  pub number : start_wave t c.part ≡ 1 + largest (start_wave t) (others_needed c)
  pub others-before : all (before_closing t) (others_needed c) ≡ true

-- "because of a circle of needs or an absent cluster": one of the others that it needs is absent or closes too
abbrev pub has_to_close : Table → Cluster → Bool
has_to_close t c = any (λ part. cond (present t part) (in_closing t part) true) (others_needed c)

-- ---- other numberings

-- a "numbering from 1 that puts each behind all the others it needs", of some clusters of a table
pub record NumbersBehind (t : Table) (among : ℕ → Bool) (number : ℕ → ℕ) : Type 0 where
  pub from_one : (part : ℕ) → among part ≡ true → 1 ≤ number part
  pub behind : (part : ℕ) (c : Cluster) → among part ≡ true → find part t ≡ some c → all (λ other. ltb (number other) (number part)) (others_needed c) ≡ true

-- some clusters of a table, with all the others that they need among them
pub record WithOthersNeeded (t : Table) (among : ℕ → Bool) : Type 0 where
  pub here : (part : ℕ) → among part ≡ true → present t part ≡ true
  pub others : (part : ℕ) (c : Cluster) → among part ≡ true → find part t ≡ some c → all among (others_needed c) ≡ true

-- What A.3 says of the start waves, for every table within its limits, and of their report, from any state, store and lent numbers. The page
-- to read first: specs/StartOrder.antt has the waves, specs/WaveClaims.antt what is claimed of them, specs/WavesReport.antt the report,
-- proofs/order and proofs/Reports.antt the proofs. Assumes nothing.
use Prim.Native.Nat.{ℕ, ◌*◌, ◌≤◌, ◌<◌}
use mathlib.Core.Path.{◌≡◌}
use mathlib.Core.Bool.{Bool, true, false, cond, ◌||◌}
use mathlib.Core.List.{List, ◌++◌}
use mathlib.Core.Option.{some}
use lib.ListN.{length, drop}
use Rattle.clusters.specs.Cluster.{Cluster}
use Rattle.clusters.specs.Table.{Table, find, table_within}
use Rattle.model.specs.State.{State, Store}
use Rattle.model.specs.Tables.{running}
use Rattle.model.specs.Sound.{sound}
use Rattle.model.specs.Reading.{refused_by, short_buffer, given}
use Rattle.model.proofs.soundness.RunningWithin.{running-within}
use Rattle.start_waves.specs.StartOrder.{start_waves}
use Rattle.start_waves.specs.WavesReport.{numbers_of, waves_report}
use Rattle.start_waves.specs.WaveClaims.{times_listed, present, in_order, start_wave, before_closing, in_closing, InFirstWave, has_to_close, NumbersBehind, WithOthersNeeded}
use Rattle.start_waves.proofs.order.ListedOnce.{listed-once, all_listed}
use Rattle.start_waves.proofs.order.InOrder.{in_order_lem}
use Rattle.start_waves.proofs.order.FirstWave.{first-wave, closing-exactly, before-or-closing}
use Rattle.start_waves.proofs.order.LeastNumbering.{least, early-with-others, no-smaller, waves-number}
use Rattle.start_waves.proofs.Reports.{unsound-report, short-report, given-report}

-- ---- the waves of a table

module _ (t : Table) (within : table_within t ≡ true) where
  -- "Every cluster is listed once.", and nothing else is
  pub every-cluster-once : (part : ℕ) → times_listed part (start_waves t) ≡ cond (present t part) 1 0
  every-cluster-once = listed-once t within

  -- as many entries as clusters
  pub as-many-entries : length (start_waves t) ≡ length t
  as-many-entries = all_listed t within

  -- "Within a wave the part number rises."; "wave numbers from 1", without a gap
  pub waves-in-order : in_order (start_waves t) ≡ true
  waves-in-order = in_order_lem t within

  -- a cluster is before the closing wave or in it, and nothing else is
  pub before-or-in-closing : (part : ℕ) → present t part ≡ before_closing t part || in_closing t part
  before-or-in-closing = before-or-closing t within

  module _ (part : ℕ) (c : Cluster) (found : find part t ≡ some c) where
    -- "A cluster belongs to the first wave that comes after the waves of all the others it needs; a need of itself counts for nothing."
    pub in-first-wave : before_closing t part ≡ true → InFirstWave t c
    in-first-wave = first-wave t within part c found

    -- "Clusters that get no wave this way, because of a circle of needs or an absent cluster, form one closing wave."
    pub closes-exactly-when : in_closing t part ≡ has_to_close t c
    closes-exactly-when = closing-exactly t within part c found

  -- "For the clusters before the closing wave, no other numbering from 1 that puts each behind all the others it needs gives any of them a
  -- smaller number."
  pub no-smaller-number : (number : ℕ → ℕ) → NumbersBehind t (before_closing t) number
      → (part : ℕ) → before_closing t part ≡ true → start_wave t part ≤ number part
  no-smaller-number = no-smaller t within

  -- and the waves are such a numbering
  pub waves-are-one : NumbersBehind t (before_closing t) (start_wave t)
  waves-are-one = waves-number t within

  -- nobody closes without cause: some clusters, with all the others that they need among them, that a numbering puts behind these are before
  -- the closing wave, each in a wave that is no larger
  pub least-numbering : (among : ℕ → Bool) (number : ℕ → ℕ) → WithOthersNeeded t among → NumbersBehind t among number
      → (part : ℕ) → among part ≡ true → (before_closing t part ≡ true) × (start_wave t part ≤ number part)
  least-numbering = least t within

  -- and the clusters before the closing wave are such
  pub early-are-such : WithOthersNeeded t (before_closing t)
  early-are-such = early-with-others t within

-- ---- the report

module _ (s : State) (store : Store) (old : List ℕ) where
  -- of an unsound state 1, which comes first; nothing is written
  pub unsound-refused : sound s store ≡ false → waves_report s store old ≡ record { reply = refused_by 1; buffer = old }
  unsound-refused = unsound-report s store old

  module _ (is-sound : sound s store ≡ true) where
    -- "the start waves for the running table": what is claimed of a table within its limits holds of this one
    pub running-in-limits : table_within (running s) ≡ true
    running-in-limits = running-within s store is-sound

    -- "A short buffer is 19, with that number as the length.": an entry is two numbers; nothing is written
    pub short-refused : length old < 2 * length (running s) → waves_report s store old ≡ record { reply = short_buffer (length (running s)); buffer = old }
    short-refused = short-report s store old is-sound

    -- "The answer is the number of clusters; entries behind keep their values.": two numbers for each cluster, and the old ones behind these
    pub all-given : 2 * length (running s) ≤ length old
        → waves_report s store old ≡ record { reply = given (length (running s)); buffer = numbers_of (start_waves (running s)) ++ drop (2 * length (running s)) old }
    all-given = given-report s store old is-sound

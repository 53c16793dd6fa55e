-- "Within a wave the part number rises.", waves never fall along the list, and they are numbered from 1 without a gap: each wave keeps
-- that, since the clusters of a wave stand in the order of the table. Assumes nothing.
use Prim.Native.Nat.{ℕ, ◌+◌, ◌≤◌}
use mathlib.Core.Path.{◌≡◌, refl}
use mathlib.Core.Bool.{Bool, true}
use mathlib.Core.List.{List, [], ◌∷◌, ◌++◌, map}
use native.Mathlib.Omega.{arith}
use lib.Dec.{eqb}
use borrow.Author.Tests.{lt-ltb, eq-eqb, ne_eqb}
use Rattle.base.proofs.Tests.{and_left, and_right, and_both, cond_cases}
use Rattle.clusters.specs.Cluster.{Cluster}
use Rattle.clusters.specs.Table.{Table, rising_above, table_within}
use Rattle.clusters.proofs.Limits.{rising-says, rising-is, rising-clusters}
use Rattle.start_waves.specs.StartOrder.{WaveEntry, number_behind, select, in_wave, add_wave, start_waves}
use Rattle.start_waves.specs.WaveClaims.{follows, in_order_behind, in_order}
use Rattle.start_waves.proofs.order.WaveLaws.{all-waves-keep}

-- the clusters that a test takes out of a rising table rise
selected-rise : (test : Cluster → Bool) (low last : ℕ) (t : Table) → low ≤ last → rising_above last t ≡ true → rising_above low (select test t) ≡ true
unfolding select
selected-rise test low last [] l h = unfold rising_above in refl
selected-rise test low last (c ∷ t) l h =
    let r = rising-says last c t h in
    let on : rising_above c.part (select test t) ≡ true = selected-rise test c.part c.part t (omega arith) r.rest in
    let past : rising_above low (select test t) ≡ true = selected-rise test low c.part t (omega (arith, r.over)) r.rest in
    cond_cases (λ (cs : Table). rising_above low cs ≡ true) (test c) _ _
    (λ z. rising-is low c (select test t) (record { over = omega (arith, r.over); within = r.within; rest = on })) λ z. past

module _ (k : ℕ) where
  -- behind an entry of the same wave
  within-wave : (last : ℕ) (cs : List Cluster) → rising_above last cs ≡ true → in_order_behind (record { part = last; wave = k }) (map (in_wave k) cs) ≡ true
  unfolding in_order_behind
  within-wave last [] h = refl
  within-wave last (c ∷ cs) h = let r = rising-says last c cs h in rw (eq-eqb k k refl, lt-ltb last c.part r.over) (within-wave c.part cs r.rest)

-- behind the last entry, a wave of the next number
wave-behind-entry : (a : WaveEntry) (entries : List WaveEntry) (cs : List Cluster) → in_order_behind a entries ≡ true → rising_above 0 cs ≡ true
    → in_order_behind a (entries ++ map (in_wave (number_behind a.wave entries)) cs) ≡ true
unfolding in_order_behind number_behind
wave-behind-entry a [] [] h rise = refl
wave-behind-entry a [] (c ∷ cs) h rise =
    rw (ne_eqb (a.wave + 1) a.wave (λ e. omega arith), eq-eqb (a.wave + 1) (a.wave + 1) refl)
    (within-wave (a.wave + 1) c.part cs (rising-says 0 c cs rise).rest)
wave-behind-entry a (b ∷ entries) cs h rise =
    and_both (follows a b) _ (and_left (follows a b) (in_order_behind b entries) h)
    (wave-behind-entry b entries cs (and_right (follows a b) (in_order_behind b entries) h) rise)

wave-in-order : (entries : List WaveEntry) (cs : List Cluster) → in_order entries ≡ true → rising_above 0 cs ≡ true → in_order (add_wave entries cs) ≡ true
unfolding in_order add_wave number_behind
wave-in-order [] [] h rise = refl
wave-in-order [] (c ∷ cs) h rise = within-wave 1 c.part cs (rising-says 0 c cs rise).rest
wave-in-order (e ∷ entries) cs h rise =
    and_both (eqb e.wave 1) _ (and_left (eqb e.wave 1) (in_order_behind e entries) h)
    (wave-behind-entry e entries cs (and_right (eqb e.wave 1) (in_order_behind e entries) h) rise)

pub in_order_lem : (t : Table) → table_within t ≡ true → in_order (start_waves t) ≡ true
in_order_lem t within =
    all-waves-keep t (λ (entries : List WaveEntry). in_order entries ≡ true)
    (λ entries test only h. wave-in-order entries (select test t) h (selected-rise test 0 0 t (omega arith) (rising-clusters t within)))
    (unfold in_order in refl)

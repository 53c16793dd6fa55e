-- Each cluster before the closing wave stands in the first wave behind all the others that it needs, and a cluster closes exactly when one of
-- these is absent or closes too. What the rounds keep is `Placed`, below; that a further round places none is `settled`. Assumes nothing.
use Prim.Native.Nat.{ℕ, zero, suc, ◌+◌, ◌<◌}
use mathlib.Core.Path.{◌≡◌, refl, sym, ap, ◌∙◌}
use mathlib.Core.Bool.{true, false, not, cond, ◌||◌, or-not_self}
use mathlib.Core.List.{List, [], ◌∷◌}
use mathlib.Core.Option.{Option, none, some}
use native.Mathlib.Omega.{arith}
use lib.Dec.{ltb}
use lib.ListN.{length}
use borrow.Author.Tests.{lt-ltb, le-ltb, eq-eqb, ne_eqb}
use Rattle.base.proofs.Tests.{and_both, bool_cases, cond-true, clash, or_right_false}
use Rattle.base.proofs.Ladder.{both-on}
use Rattle.clusters.specs.Cluster.{Cluster}
use Rattle.clusters.specs.Table.{Table, find, rising_above, table_within}
use Rattle.clusters.proofs.Limits.{rising-clusters}
use Rattle.start_waves.specs.StartOrder.{WaveEntry, wave_of, has_wave, next_wave, number_behind, others_needed, all, startable, waiting, round, rounds, waves_before, closing, start_waves, closing_wave}
use Rattle.start_waves.specs.Listed.{numbered_before}
use Rattle.start_waves.specs.WaveClaims.{is_cluster, present, start_wave, before_closing, in_closing, largest, InFirstWave, has_to_close}
use Rattle.start_waves.proofs.order.RisingLaws.{found_part}
use Rattle.start_waves.proofs.order.WaveLaws.{Numbered, next-from-one, wave-before, wave_where}
use Rattle.start_waves.proofs.order.PartLists.{all-also, any-fails, largest-same, largest-reached}
use Rattle.start_waves.proofs.order.Settled.{wave-stays, wave-given, round_keeps, round-gives, round-new, round-has, round-passes, round-cases, round-numbered, settled}

-- ---- what the rounds keep

-- the number behind the waves of all the others that the cluster needs
abbrev number_after : List WaveEntry → Cluster → ℕ
number_after entries c = 1 + largest (λ p. wave_of p entries) (others_needed c)

-- the waves are numbered from 1 and only clusters of the table have one. Each who has one has all the others that it needs in waves before, and
-- its wave comes next behind these. Who has none and could start would come next behind all waves.
pub record Placed (t : Table) (entries : List WaveEntry) : Type 0 where
  pub numbered : Numbered entries
  pub known : (part : ℕ) → find part t ≡ none → has_wave entries part ≡ false
  pub others : (part : ℕ) (c : Cluster) → find part t ≡ some c → has_wave entries part ≡ true → startable entries c ≡ true
  pub first : (part : ℕ) (c : Cluster) → find part t ≡ some c → has_wave entries part ≡ true → wave_of part entries ≡ number_after entries c
  pub late : (part : ℕ) (c : Cluster) → find part t ≡ some c → has_wave entries part ≡ false → startable entries c ≡ true
      → next_wave entries ≡ number_after entries c

placed-none : (t : Table) → Placed t []
unfolding numbered_before wave_of number_behind startable all largest
placed-none t =
    record {
      numbered = refl;
      known = λ part f. refl;
      others = λ part c f e. clash e refl;
      first = λ part c f e. clash e refl;
      late = λ part c f e s. go (others_needed c) s;
    }
  where
    go : (parts : List ℕ) → all (has_wave []) parts ≡ true → next_wave [] ≡ 1 + largest (λ p. wave_of p []) parts
    go [] s = refl
    go (p ∷ parts) s = clash s refl

module _ (t : Table) (rising : rising_above 0 t ≡ true) (entries : List WaveEntry) (placed : Placed t entries) where
  abbrev after : List WaveEntry
  after = round t entries

  has-still : (p : ℕ) → has_wave entries p ≡ true → has_wave after p ≡ true
  has-still p e = rw (round_keeps t rising entries placed.numbered p e) e

  -- all the others had their waves before the round
  module _ (c : Cluster) (s : startable entries c ≡ true) where
    others-still : startable after c ≡ true
    unfolding startable
    others-still = all-also (has_wave entries) (has_wave after) (others_needed c) has-still s

    number-still : number_after entries c ≡ number_after after c
    unfolding startable
    number-still =
        ap (λ (n : ℕ). 1 + n)
        (largest-same (λ p. wave_of p entries) (has_wave entries) (λ p. wave_of p after) (others_needed c)
        (λ p e. sym (round_keeps t rising entries placed.numbered p e)) s)

  module _ (part : ℕ) (c : Cluster) (f : find part t ≡ some c) where
    -- who has a wave now could start before the round
    could-start : has_wave after part ≡ true → startable entries c ≡ true
    could-start e =
        bool_cases (has_wave entries part) (placed.others part c f) λ z. sym (rw z at (round-has t rising entries placed.numbered part c f)) ∙ e

    first-still : has_wave after part ≡ true → wave_of part after ≡ number_after entries c
    first-still e =
        bool_cases (has_wave entries part) (λ z. round_keeps t rising entries placed.numbered part z ∙ placed.first part c f z)
        λ z. round-gives t rising entries placed.numbered part c z f ∙ cond-true _ _ (could-start e) ∙ placed.late part c f z (could-start e)

    -- who could not start before the round, and could now, needs one to whom the round gave a wave
    late-still : next_wave after ≡ next_wave entries + 1 → has_wave after part ≡ false → startable after c ≡ true → next_wave after ≡ number_after after c
    unfolding startable
    late-still next e s =
        let stuck : startable entries c ≡ false =
        or_right_false (has_wave entries part) (startable entries c) (sym (round-has t rising entries placed.numbered part c f) ∙ e) in
        let reached : largest (λ p. wave_of p after) (others_needed c) ≡ next_wave entries =
        largest-reached (λ p. wave_of p after) (has_wave entries) (next_wave entries) (others_needed c)
        (λ p. omega (arith, wave-before (next_wave after) p after (next-from-one after) (round-numbered t entries placed.numbered)))
        (round-new t rising entries placed.numbered) s stuck in
        omega arith

  placed-more : Placed t after
  placed-more =
      round-cases t entries (λ same. rw same placed)
      λ next some-placed. record {
        numbered = round-numbered t entries placed.numbered;
        known = λ part f. rw (round-passes t rising entries placed.numbered part (placed.known part f) f);
        others = λ part c f e. others-still c (could-start part c f e);
        first = λ part c f e. first-still part c f e ∙ number-still c (could-start part c f e);
        late = λ part c f. late-still part c f next;
      }

placed-rounds : (t : Table) (k : ℕ) (entries : List WaveEntry) → rising_above 0 t ≡ true → Placed t entries → Placed t (rounds k t entries)
unfolding rounds
placed-rounds t zero entries rising placed = placed
placed-rounds t (suc k) entries rising placed = placed-rounds t k (round t entries) rising (placed-more t rising entries placed)

-- ---- the waves before the closing one, and the closing one

module _ (t : Table) (within : table_within t ≡ true) where
  placed : Placed t (waves_before t)
  unfolding waves_before
  placed = placed-rounds t (length t) [] (rising-clusters t within) (placed-none t)

  module _ (part : ℕ) where
    -- a wave of the rounds stays
    wave-is : has_wave (waves_before t) part ≡ true → start_wave t part ≡ wave_of part (waves_before t)
    unfolding start_waves closing
    wave-is = wave-stays t (rising-clusters t within) (waves_before t) placed.numbered part (waiting (waves_before t))

    no-wave-is : has_wave (waves_before t) part ≡ false → start_wave t part ≡ wave_where (waiting (waves_before t)) (closing_wave t) (find part t)
    unfolding start_waves closing
    no-wave-is = wave-given t (rising-clusters t within) (waves_before t) placed.numbered part (waiting (waves_before t))

    wave-early : wave_of part (waves_before t) < closing_wave t
    wave-early = wave-before (closing_wave t) part (waves_before t) (next-from-one (waves_before t)) placed.numbered

    module _ (c : Cluster) (f : find part t ≡ some c) where
      -- a cluster that has no wave closes
      closes : has_wave (waves_before t) part ≡ false → start_wave t part ≡ closing_wave t
      closes e = let own : has_wave (waves_before t) c.part ≡ false = rw (found_part part t c f) e in no-wave-is e ∙ rw (f, own)

      closing-is : in_closing t part ≡ not (has_wave (waves_before t) part)
      closing-is =
          bool_cases (has_wave (waves_before t) part) (λ e. rw (wave-is e, e) (ne_eqb (wave_of part (waves_before t)) (closing_wave t) λ z. omega (arith, wave-early)))
          λ e. rw (closes e, e) (eq-eqb (closing_wave t) (closing_wave t) refl)

      -- a further round places none, so who could start has a wave
      starts_is : has_wave (waves_before t) part ≡ startable (waves_before t) c
      starts_is =
          bool_cases (has_wave (waves_before t) part) (λ e. e ∙ sym (placed.others part c f e))
          λ e. e ∙ rw (settled t within, e) at (round-has t (rising-clusters t within) (waves_before t) placed.numbered part c f)

    -- before the closing wave are those to whom the rounds gave a wave
    before-is : before_closing t part ≡ has_wave (waves_before t) part
    before-is =
        bool_cases (has_wave (waves_before t) part)
        (λ e. rw (wave-is e) (and_both (has_wave (waves_before t) part) _ e (lt-ltb _ _ wave-early) ∙ sym e))
        λ e. go (find part t) refl e ∙ sym e
      where
        go : (found : Option Cluster) → find part t ≡ found → has_wave (waves_before t) part ≡ false → before_closing t part ≡ false
        go none f e = let zero-wave : start_wave t part ≡ 0 = no-wave-is e ∙ rw f in rw zero-wave
        go (some c) f e =
            rw (closes c f e)
            (both-on (ltb 0 (closing_wave t)) _ false (lt-ltb 0 _ (next-from-one (waves_before t))) (le-ltb (closing_wave t) _ (omega arith)))

    -- only clusters of the table have waves
    pub before-present : before_closing t part ≡ true → present t part ≡ true
    before-present b = go (find part t) refl
      where
        go : (found : Option Cluster) → find part t ≡ found → is_cluster found ≡ true
        go none f = clash (sym before-is ∙ b) (placed.known part f)
        go (some c) f = refl

  -- a cluster is before the closing wave or in it, and what is absent is neither
  pub before-or-closing : (part : ℕ) → present t part ≡ before_closing t part || in_closing t part
  before-or-closing part = go (find part t) refl
    where
      go : (found : Option Cluster) → find part t ≡ found → is_cluster found ≡ before_closing t part || in_closing t part
      go none f =
          let none-given : start_wave t part ≡ 0 = no-wave-is part (placed.known part f) ∙ rw f in
          rw (none-given, ne_eqb 0 (closing_wave t) (λ e. omega (arith, next-from-one (waves_before t))))
      go (some c) f = rw (before-is part, closing-is part c f) (sym (or-not_self (has_wave (waves_before t) part)))

  -- ---- the claims

  module _ (part : ℕ) (c : Cluster) (f : find part t ≡ some c) where
    -- "A cluster belongs to the first wave that comes after the waves of all the others it needs"
    pub first-wave : before_closing t part ≡ true → InFirstWave t c
    unfolding startable
    first-wave b =
        let has : has_wave (waves_before t) part ≡ true = sym (before-is part) ∙ b in
        let others : all (has_wave (waves_before t)) (others_needed c) ≡ true = placed.others part c f has in
        record {
          number =
              ap (start_wave t) (found_part part t c f) ∙ wave-is part has ∙ placed.first part c f has
              ∙ ap (λ (n : ℕ). 1 + n) (largest-same (λ p. wave_of p (waves_before t)) (has_wave (waves_before t)) (start_wave t) (others_needed c)
              (λ p e. sym (wave-is p e)) others);
          others-before = all-also (has_wave (waves_before t)) (before_closing t) (others_needed c) (λ p e. before-is p ∙ e) others;
        }

    -- with all of these before the closing wave it is too
    pub before-with : all (before_closing t) (others_needed c) ≡ true → before_closing t part ≡ true
    unfolding startable
    before-with a =
        before-is part ∙ starts_is part c f
        ∙ all-also (before_closing t) (has_wave (waves_before t)) (others_needed c) (λ p e. sym (before-is p) ∙ e) a

    -- "Clusters that get no wave this way, because of a circle of needs or an absent cluster, form one closing wave."
    pub closing-exactly : in_closing t part ≡ has_to_close t c
    unfolding startable
    closing-exactly =
        closing-is part c f ∙ ap not (starts_is part c f)
        ∙ sym (any-fails (has_wave (waves_before t)) (λ p. cond (present t p) (in_closing t p) true) (others_needed c) λ p. go p (find p t) refl)
      where
        go : (p : ℕ) (found : Option Cluster) → find p t ≡ found → cond (is_cluster found) (in_closing t p) true ≡ not (has_wave (waves_before t) p)
        go p none e = ap not (sym (placed.known p e))
        go p (some d) e = closing-is p d e

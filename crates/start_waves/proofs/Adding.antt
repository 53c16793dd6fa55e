-- The loop that adds a wave: what it keeps, and one law for a cluster that joins and one for a cluster that is passed. Assumes nothing.
use Prim.Native.Nat.{ℕ, zero, suc, ◌+◌, ◌*◌, ◌≤◌, ◌<◌}
use mathlib.Core.Path.{◌≡◌, refl, sym, ap, ◌∙◌}
use mathlib.Core.Bool.{Bool, true, false, cond}
use mathlib.Core.List.{List, [], ◌∷◌, ◌++◌, map, append_assoc, append-nil, map-append}
use mathlib.Core.Option.{none}
use native.Mathlib.Omega.{arith}
use lib.Dec.{eqb}
use lib.ListN.{length, take, get_or, set, length-append, length-take, length-set, get_or-map}
use lib.Seq.{sets, length-sets, get_or-take, get_or-set_same, get_or-set_other, take-set-lt, take_all}
use borrow.Author.Tests.{eqb-true, eqb-false, ne_eqb, eq-eqb}
use Rattle.base.proofs.Tests.{and_left, bool_cases, none-some}
use Rattle.text.proofs.PutLaws.{sets-append}
use Rattle.clusters.specs.Cluster.{Cluster, cluster}
use Rattle.clusters.specs.Table.{Table, find, table_within, clusters_most}
use Rattle.clusters.specs.View.{no_version}
use Rattle.clusters.specs.Place.{part_of}
use Rattle.clusters.proofs.Limits.{rising-clusters}
use Rattle.start_waves.specs.declared.rounds.Started.{Started}
use Rattle.start_waves.specs.StartOrder.{WaveEntry, wave_of, next_wave, select, in_wave, add_wave}
use Rattle.start_waves.specs.WavesReport.{numbers_of}
use Rattle.start_waves.specs.Waits.{cluster_at, waits_most}
use Rattle.start_waves.specs.Listed.{ArraysOf, joins, numbered_before, joins_at, without_wave, Listed, AddsWave}
use Rattle.start_waves.proofs.order.RisingLaws.{one_place, found_at}
use Rattle.start_waves.proofs.order.SelectLaws.{select-next, select-past}
use Rattle.start_waves.proofs.order.WaveLaws.{numbered-append, numbered-wave, numbered_more, wave-behind}
use Rattle.start_waves.proofs.NumbersOf.{two-numbers-each, numbers-append}
use Rattle.start_waves.proofs.JoinLaws.{so_far, joins-is}

-- ---- how many have no wave

one_fewer : (waves : List ℕ) (i number : ℕ) → i < length waves → get_or waves i 0 ≡ 0 → 1 ≤ number → without_wave (set waves i number) + 1 ≡ without_wave waves
unfolding without_wave
one_fewer [] i number h z l = absurd (omega arith)
one_fewer (w ∷ waves) zero number h z l = rw (eq-eqb w 0 z, ne_eqb number 0 (λ e. omega arith))
one_fewer (w ∷ waves) (suc i) number h z l = go (eqb w 0) (one_fewer waves i number (omega arith) z l)
  where
    go : (b : Bool) → without_wave (set waves i number) + 1 ≡ without_wave waves
        → cond b (without_wave (set waves i number) + 1) (without_wave (set waves i number)) + 1 ≡ cond b (without_wave waves + 1) (without_wave waves)
    go true e = omega arith
    go false e = e

module _ (size : ℕ) (waves : List ℕ) (i number : ℕ) (h : i < size) (long : size ≤ length waves) (z : get_or waves i 0 ≡ 0) (one : 1 ≤ number) where
  one-fewer-first : without_wave (take size (set waves i number)) + 1 ≡ without_wave (take size waves)
  one-fewer-first =
      rw (take-set-lt size waves i number h)
      (one_fewer (take size waves) i number (rw length-take (omega arith)) (get_or-take size waves i 0 h ∙ z) one)

-- ---- the wave of a part number behind one entry more

wave-other : (part : ℕ) (entries : List WaveEntry) (e : WaveEntry) → (part ≡ e.part → ⊥) → wave_of part (entries ++ e ∷ []) ≡ wave_of part entries
unfolding wave_of
wave-other part [] e n = rw (ne_eqb part e.part n)
wave-other part (d ∷ entries) e n = ap (cond (eqb part d.part) d.wave) (wave-other part entries e n)

wave-own : (entries : List WaveEntry) (e : WaveEntry) (number : ℕ) → numbered_before number entries ≡ true → wave_of e.part entries ≡ 0
    → wave_of e.part (entries ++ e ∷ []) ≡ e.wave
unfolding wave_of
wave-own entries e number n z = wave-behind number e.part entries (e ∷ []) n ∙ rw (z, eq-eqb e.part e.part refl)

-- ---- what the loop keeps

-- of the first i clusters of a table those that join are listed, behind the entries before the round
abbrev ListedTo : Table → List WaveEntry → Bool → ℕ → ℕ → Started → List ℕ → List ℕ → Type 0
ListedTo t entries closing number i started old buffer =
    Listed t (entries ++ map (in_wave number) (select (joins closing entries) (take i t))) started old buffer

pub record Adding (closing : Bool) (parts waits : List ℕ) (size number count₀ : ℕ) (waves₀ buffer₀ : List ℕ) (count : ℕ) (waves buffer : List ℕ)
    (i : ℕ) : Type 0 where
  pub long : length waves ≡ clusters_most
  pub lent : length buffer ≡ length buffer₀
  pub kept : count + without_wave (take size waves) ≡ count₀ + without_wave (take size waves₀)
  pub grows : count₀ ≤ count
  pub lists : (t : Table) (entries : List WaveEntry) (old : List ℕ) → ArraysOf parts waits size t → number ≡ next_wave entries
      → numbered_before number entries ≡ true → Listed t entries (record { waves = waves₀; count = count₀ }) old buffer₀
      → ListedTo t entries closing number i (record { waves = waves; count = count }) old buffer

-- ---- one entry more

module _ (t : Table) (ok : table_within t ≡ true) (entries : List WaveEntry) (number below i : ℕ) (h : i < length t)
    (numbered : numbered_before below entries ≡ true) (unlisted : wave_of (cluster_at t i).part entries ≡ 0) where
  abbrev entry : WaveEntry
  entry = in_wave number (cluster_at t i)

  other_place : (m : ℕ) → m < length t → (m ≡ i → ⊥) → (cluster_at t m).part ≡ (cluster_at t i).part → ⊥
  other_place m l n e = n (one_place 0 t m i (rising-clusters t ok) l h e)

  present-here : (part : ℕ) → find part t ≡ none → part ≡ (cluster_at t i).part → ⊥
  present-here part f e = none-some (sym f ∙ ap (λ (p : ℕ). find p t) e ∙ found_at 0 t i (rising-clusters t ok) h)

  numbers_more : (part : ℕ) → part ≡ (cluster_at t i).part → numbers_of (entries ++ entry ∷ []) ≡ numbers_of entries ++ part ∷ number ∷ []
  unfolding numbers_of
  numbers_more part e = rw e (numbers-append entries (entry ∷ []))

  one_more : (waves : List ℕ) (count part : ℕ) (old new : List ℕ) → i < length waves → part ≡ (cluster_at t i).part
      → Listed t entries (record { waves = waves; count = count }) old new
      → Listed t (entries ++ entry ∷ []) (record { waves = set waves i number; count = count + 1 }) old (sets new (2 * count) (part ∷ number ∷ []))
  one_more waves count part old new room e listed =
      record {
        counted = omega (arith, listed.counted, length-append entries (entry ∷ []));
        only = λ p f. wave-other p entries entry (present-here p f) ∙ listed.only p f;
        waved = waved;
        written =
            ap (λ (l : List ℕ). sets l (2 * count) (part ∷ number ∷ [])) listed.written
            ∙ ap (λ (k : ℕ). sets (sets old 0 (numbers_of entries)) k (part ∷ number ∷ [])) at-end
            ∙ sym (sets-append (numbers_of entries) (part ∷ number ∷ []) old 0)
            ∙ ap (sets old 0) (sym (numbers_more part e));
      }
    where
      at-end : 2 * count ≡ 0 + length (numbers_of entries)
      at-end = omega (arith, two-numbers-each entries, listed.counted)

      waved : (m : ℕ) → m < length t → get_or (set waves i number) m 0 ≡ wave_of (cluster_at t m).part (entries ++ entry ∷ [])
      waved m l =
          bool_cases (eqb m i)
          (λ z. rw (eqb-true m i z) (get_or-set_same waves i number 0 room ∙ sym (wave-own entries entry below numbered unlisted)))
          λ z.
          get_or-set_other waves i m number 0 (eqb-false m i z) ∙ listed.waved m l ∙ sym (wave-other (cluster_at t m).part entries entry (other_place m l (eqb-false m i z)))

-- ---- how the loop begins and ends

module _ (closing : Bool) (parts waits : List ℕ) (size number count₀ : ℕ) (waves₀ buffer₀ : List ℕ) where
  pub adding-begins : length waves₀ ≡ clusters_most → Adding closing parts waits size number count₀ waves₀ buffer₀ count₀ waves₀ buffer₀ 0
  unfolding select
  adding-begins long =
      record {
        long = long;
        lent = refl;
        kept = refl;
        grows = omega arith;
        lists = λ t entries old of e numbered begun. rw (append-nil entries) begun;
      }

  pub adding-ends : (count : ℕ) (waves buffer : List ℕ) (i : ℕ) → Adding closing parts waits size number count₀ waves₀ buffer₀ count waves buffer i → size ≤ i
      → AddsWave closing parts waits size number (record { waves = waves₀; count = count₀ }) (record { waves = waves; count = count }) buffer₀ buffer
  unfolding add_wave
  adding-ends count waves buffer i adding h t entries old of e numbered begun =
      rw (← e)
      (rw (take_all i t (omega (arith, of.sized))) at (adding.lists t entries old of e numbered begun))

-- ---- one turn of the loop: r is what the code asked, and the primed are what it has then

module _ (closing : Bool) (parts waits : List ℕ) (size number count₀ : ℕ) (waves₀ buffer₀ : List ℕ) (count : ℕ) (waves buffer : List ℕ) (i : ℕ)
    (few : size ≤ clusters_most) (one : 1 ≤ number) (long-waits : length waits ≡ waits_most) (h : i < size)
    (adding : Adding closing parts waits size number count₀ waves₀ buffer₀ count waves buffer i)
    (r : Bool) (told : r ≡ joins_at closing waits waves i number) where
  -- a table, the entries before the round, and what they are in the arrays
  module _ (t : Table) (entries : List WaveEntry) (old : List ℕ) (of : ArraysOf parts waits size t) (e : number ≡ next_wave entries)
      (numbered : numbered_before number entries ≡ true) (begun : Listed t entries (record { waves = waves₀; count = count₀ }) old buffer₀) where
    abbrev here : List WaveEntry
    here = so_far t of.within entries number numbered (joins closing entries) i

    in_table : i < length t
    in_table = omega (arith, of.sized)

    now : Listed t here (record { waves = waves; count = count }) old buffer
    now = adding.lists t entries old of e numbered begun

    asked : joins_at closing waits waves i number ≡ joins closing entries (cluster_at t i)
    asked =
        joins-is t of.within entries number numbered (joins closing entries) i waits waves one in_table begun.only now.waved long-waits size
        of.sized of.waits-of closing

    -- the column has the part number
    part-here : get_or parts i 0 ≡ (cluster_at t i).part
    part-here =
        sym (get_or-take size parts i 0 h) ∙ ap (λ (l : List ℕ). get_or l i 0) of.parts-of ∙ get_or-map part_of t i (cluster 0 no_version [])

    passed : r ≡ false → ListedTo t entries closing number (i + 1) (record { waves = waves; count = count }) old buffer
    passed n = rw (select-past (joins closing entries) t i (cluster 0 no_version []) in_table (sym asked ∙ sym told ∙ n)) now

    joined : r ≡ true
        → ListedTo t entries closing number (i + 1) (record { waves = set waves i number; count = count + 1 }) old
        (sets buffer (2 * count) (get_or parts i 0 ∷ number ∷ []))
    joined y =
        rw grown
        (one_more t of.within here number (number + 1) i in_table here-numbered unlisted waves count (get_or parts i 0) old buffer
        (omega (arith, adding.long)) part-here now)
      where
        grown : entries ++ map (in_wave number) (select (joins closing entries) (take (i + 1) t)) ≡ here ++ in_wave number (cluster_at t i) ∷ []
        grown =
            ap (λ (l : List Cluster). entries ++ map (in_wave number) l)
            (select-next (joins closing entries) t i (cluster 0 no_version []) in_table (sym asked ∙ sym told ∙ y))
            ∙ ap (λ (l : List WaveEntry). entries ++ l) (map-append (in_wave number) (select (joins closing entries) (take i t)) (cluster_at t i ∷ []))
            ∙ sym (append_assoc entries (map (in_wave number) (select (joins closing entries) (take i t))) (in_wave number (cluster_at t i) ∷ []))

        here-numbered : numbered_before (number + 1) here ≡ true
        here-numbered =
            numbered-append (number + 1) entries _ (numbered_more number (number + 1) entries (omega arith) numbered)
            (numbered-wave (number + 1) number (select (joins closing entries) (take i t)) one (omega arith))

        unlisted : wave_of (cluster_at t i).part here ≡ 0
        unlisted = sym (now.waved i in_table) ∙ eqb-true _ _ (and_left (eqb (get_or waves i 0) 0) _ (sym told ∙ y))

  pub adding-passed : (count' : ℕ) (waves' buffer' : List ℕ) → r ≡ false → buffer' ≡ buffer → waves' ≡ waves → count' ≡ count
      → Adding closing parts waits size number count₀ waves₀ buffer₀ count' waves' buffer' (i + 1)
  adding-passed count' waves' buffer' n b w k =
      rw (b, w, k)
      (record {
        long = adding.long;
        lent = adding.lent;
        kept = adding.kept;
        grows = adding.grows;
        lists = λ t entries old of e numbered begun. passed t entries old of e numbered begun n;
      })

  -- where the cluster joins it had no wave, so there is room for it
  free : r ≡ true → get_or waves i 0 ≡ 0
  free y = eqb-true _ _ (and_left (eqb (get_or waves i 0) 0) _ (sym told ∙ y))

  fewer : r ≡ true → without_wave (take size (set waves i number)) + 1 ≡ without_wave (take size waves)
  fewer y = one-fewer-first size waves i number h (omega (arith, adding.long)) (free y) one

  pub room_for : r ≡ true → 2 * (count₀ + without_wave (take size waves₀)) ≤ length buffer₀ → 2 * count + 2 ≤ length buffer
  room_for y room = omega (arith, fewer y, adding.kept, adding.lent)

  pub adding-joined : (count' : ℕ) (waves' buffer' : List ℕ) → r ≡ true → buffer' ≡ sets buffer (2 * count) (get_or parts i 0 ∷ number ∷ [])
      → waves' ≡ set waves i number → count' ≡ count + 1 → Adding closing parts waits size number count₀ waves₀ buffer₀ count' waves' buffer' (i + 1)
  adding-joined count' waves' buffer' y b w k =
      rw (b, w, k)
      (record {
        long = length-set waves i number ∙ adding.long;
        lent = length-sets buffer (2 * count) (get_or parts i 0 ∷ number ∷ []) ∙ adding.lent;
        kept = omega (arith, fewer y, adding.kept);
        grows = omega (arith, adding.grows);
        lists = λ t entries old of e numbered begun. joined t entries old of e numbered begun y;
      })

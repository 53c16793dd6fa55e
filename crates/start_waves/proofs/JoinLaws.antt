-- Whether a cluster joins the next wave: the code asks the arrays, and answers what the definition says of the entries before the round.
-- The waves that the round itself gives are not before its number, so they do not count. Assumes nothing.
use Prim.Native.Nat.{ℕ, zero, suc, ◌+◌, ◌*◌, ◌≤◌, ◌<◌}
use mathlib.Core.Path.{◌≡◌, refl, sym, ap, ◌∙◌}
use mathlib.Core.Bool.{Bool, true, false, not, cond, ◌&&◌, ◌||◌, and-false}
use mathlib.Core.List.{List, [], ◌∷◌, ◌++◌, map}
use mathlib.Core.Option.{Option, none, some}
use native.Mathlib.Omega.{arith}
use lib.Dec.{eqb, ltb}
use lib.ListN.{length, take, drop, get_or, get_elem?, length-drop}
use lib.Seq.{get_or-drop}
use borrow.Author.Tests.{ltb-true, ltb-false, lt-ltb, le-ltb, eq-eqb, ne_eqb, eqb-true, eqb-false, leb-true}
use Rattle.base.proofs.Tests.{bool_cases, none-some}
use Rattle.base.proofs.Counted.{seen_step, seen_end}
use Rattle.std.specs.Prelude.{None, Some, unwrap_or}
use Rattle.std.specs.List.{list_all}
use Rattle.place_in_list.specs.Place.{Found}
use Rattle.clusters.specs.declared.cluster.Need.{Need}
use Rattle.clusters.specs.Cluster.{Cluster, cluster, needs_most}
use Rattle.clusters.specs.Table.{Table, find, table_within, clusters_most}
use Rattle.clusters.specs.View.{no_version}
use Rattle.clusters.specs.Place.{place_of}
use Rattle.clusters.proofs.Limits.{few-clusters, rising-clusters, cluster-at-within, cluster-few-needs}
use Rattle.clusters.proofs.Placing.{place-says, nothing-found}
use Rattle.start_waves.specs.StartOrder.{WaveEntry, wave_of, has_wave, select, in_wave, needed_part, others_needed, all, startable}
use Rattle.start_waves.specs.Waits.{cluster_at, wait_place, wait_at, WaitsOf, waits_most}
use Rattle.start_waves.specs.Listed.{joins, numbered_before, started_before, passes, waits_from, joins_at}
use Rattle.start_waves.proofs.order.RisingLaws.{found_part, one_place, found_at, not-before, rising-first}
use Rattle.start_waves.proofs.order.WaveLaws.{wave-before, wave-behind, wave_where, wave-selected}

-- ---- a loop along the places that a cluster waits for

module _ (waits : List ℕ) (own : ℕ) (long : length waits ≡ waits_most) (h : own < clusters_most) where
  enough : needs_most ≤ length (drop (own * needs_most) waits)
  enough = rw length-drop (omega arith)

  pub waits-step : (j : ℕ) → j < needs_most → drop j (waits_from waits own) ≡ get_or waits (own * needs_most + j) 0 ∷ drop (j + 1) (waits_from waits own)
  waits-step j l =
      seen_step (drop (own * needs_most) waits) needs_most enough j 0 l
      ∙ ap (λ (place : ℕ). place ∷ drop (j + 1) (waits_from waits own)) (get_or-drop (own * needs_most) waits j 0)

  pub waits_end : (j : ℕ) → needs_most ≤ j → drop j (waits_from waits own) ≡ []
  waits_end j l = seen_end (drop (own * needs_most) waits) needs_most enough j l

pub all-is : (test : ℕ → Bool) (xs : List ℕ) → list_all test xs ≡ all test xs
unfolding all
all-is test [] = refl
all-is test (x ∷ xs) = ap (◌&&◌ (test x)) (all-is test xs)

-- ---- the waves in the middle of a round: of the first i clusters, those that join have the number

zero-wave : (w : ℕ) → eqb w 0 ≡ not (ltb 0 w)
zero-wave w =
    bool_cases (ltb 0 w) (λ z. rw (z, ne_eqb w 0 (λ e. omega (arith, ltb-true 0 w z)))) λ z. rw (z, eq-eqb w 0 (omega (arith, ltb-false 0 w z)))

or-zero : (w : ℕ) → cond (ltb 0 w) w 0 ≡ w
or-zero w = bool_cases (ltb 0 w) (λ z. rw z) λ z. rw z (omega (arith, ltb-false 0 w z))

-- neither 0 nor the number is before the number
not-before-own : (test : Cluster → Bool) (number : ℕ) (found : Option Cluster) → ltb 0 (wave_where test number found) && ltb (wave_where test number found) number ≡ false
not-before-own test number none = refl
not-before-own test number (some c) = go (test c)
  where
    go : (b : Bool) → ltb 0 (cond b number 0) && ltb (cond b number 0) number ≡ false
    go true = rw (le-ltb number number (omega arith)) (and-false (ltb 0 number))
    go false = refl

module _ (t : Table) (ok : table_within t ≡ true) (entries : List WaveEntry) (number : ℕ) (numbered : numbered_before number entries ≡ true)
    (test : Cluster → Bool) (i : ℕ) where
  abbrev pub so_far : List WaveEntry
  so_far = entries ++ map (in_wave number) (select test (take i t))

  wave-so-far : (part : ℕ) → wave_of part so_far ≡ cond (has_wave entries part) (wave_of part entries) (wave_where test number (find part (take i t)))
  wave-so-far part =
      wave-behind number part entries (map (in_wave number) (select test (take i t))) numbered
      ∙ ap (cond (has_wave entries part) (wave_of part entries)) (wave-selected test number part 0 (take i t) (rising-first 0 t i (rising-clusters t ok)))

  -- the cluster at i is still to come
  own-wave : i < length t → wave_of (cluster_at t i).part so_far ≡ wave_of (cluster_at t i).part entries
  own-wave h =
      wave-so-far (cluster_at t i).part
      ∙ ap (λ (found : Option Cluster). cond (has_wave entries (cluster_at t i).part) (wave_of (cluster_at t i).part entries) (wave_where test number found)) (not-before 0 t i (rising-clusters t ok) h)
      ∙ or-zero (wave_of (cluster_at t i).part entries)

  -- only a wave before the round is before its number
  before-round : 1 ≤ number → (part : ℕ) → ltb 0 (wave_of part so_far) && ltb (wave_of part so_far) number ≡ has_wave entries part
  before-round one part = rw (wave-so-far part) (go (has_wave entries part) refl)
    where
      go : (b : Bool) → has_wave entries part ≡ b → (let w = cond b (wave_of part entries) (wave_where test number (find part (take i t))) in ltb 0 w && ltb w number ≡ b)
      go true e = rw e (lt-ltb _ _ (wave-before number part entries one numbered))
      go false e = not-before-own test number (find part (take i t))

  -- ---- whether the cluster at i joins

  module _ (waits waves : List ℕ) (one : 1 ≤ number) (h : i < length t) (absent : (part : ℕ) → find part t ≡ none → wave_of part entries ≡ 0)
      (waved : (m : ℕ) → m < length t → get_or waves m 0 ≡ wave_of (cluster_at t m).part so_far) where
    place-part : (n : Need) (k : ℕ) → place_of n.part t ≡ Some k → (cluster_at t k).part ≡ n.part
    place-part n k e = found_part n.part t _ (place-says n.part t k (cluster 0 no_version []) e).there

    place_in : (n : Need) (k : ℕ) → place_of n.part t ≡ Some k → k < length t
    place_in n k e = (place-says n.part t k (cluster 0 no_version []) e).below

    -- the place is the own one exactly where the part number is
    same_test : (n : Need) (k : ℕ) → place_of n.part t ≡ Some k → eqb k i ≡ eqb n.part (cluster_at t i).part
    same_test n k e =
        bool_cases (eqb k i)
        (λ z. z ∙ sym (eq-eqb _ _ (sym (place-part n k e) ∙ ap (λ (m : ℕ). (cluster_at t m).part) (eqb-true k i z))))
        λ z. z ∙ sym (ne_eqb n.part (cluster_at t i).part λ q. eqb-false k i z (one_place 0 t k i (rising-clusters t ok) (place_in n k e) h (place-part n k e ∙ q)))

    same-started : (n : Need) (k : ℕ) → place_of n.part t ≡ Some k → started_before waves k number ≡ has_wave entries n.part
    same-started n k e =
        let wave : get_or waves k 0 ≡ wave_of n.part so_far = waved k (place_in n k e) ∙ ap (λ (part : ℕ). wave_of part so_far) (place-part n k e) in
        rw (lt-ltb k clusters_most (omega (arith, place_in n k e, few-clusters t ok)), wave) (before-round one n.part)

    -- an absent cluster is another
    other-part : (n : Need) → find n.part t ≡ none → eqb n.part (cluster_at t i).part ≡ false
    other-part n f =
        ne_eqb n.part (cluster_at t i).part
        λ q. none-some (sym f ∙ ap (λ (part : ℕ). find part t) q ∙ found_at 0 t i (rising-clusters t ok) h)

    -- nothing is waited for by a need exactly where it names the cluster itself or one with a wave before the round
    need-passes : (n : Need) → passes waves i number (wait_place t i (some n)) ≡ eqb n.part (cluster_at t i).part || has_wave entries n.part
    unfolding wait_place
    need-passes n = go (place_of n.part t) refl
      where
        go : (r : Found) → place_of n.part t ≡ r → passes waves i number (unwrap_or r clusters_most) ≡ eqb n.part (cluster_at t i).part || has_wave entries n.part
        go (Some k) e =
            ap (λ (b : Bool). b || started_before waves k number) (same_test n k e) ∙ ap (λ (b : Bool). eqb n.part (cluster_at t i).part || b) (same-started n k e)
        go None e =
            let f = nothing-found 0 n.part t e in
            rw (ne_eqb clusters_most i (λ q. omega (arith, few-clusters t ok)), other-part n f, absent n.part f)

    -- ---- its needs, one place each: k places for the needs ns

    abbrev slots : ℕ → List Need → List ℕ
    slots zero ns = []
    slots (suc k) [] = wait_place t i none ∷ slots k []
    slots (suc k) (n ∷ ns) = wait_place t i (some n) ∷ slots k ns

    -- the others among these needs
    abbrev others : List Need → List ℕ
    others ns = select (λ part. not (eqb part (cluster_at t i).part)) (map needed_part ns)

    others-all : (n : Need) (ns : List Need) → all (has_wave entries) (others (n ∷ ns))
        ≡ (eqb n.part (cluster_at t i).part || has_wave entries n.part) && all (has_wave entries) (others ns)
    unfolding select all
    others-all n ns = go (eqb n.part (cluster_at t i).part)
      where
        go : (b : Bool) → all (has_wave entries) (cond (not b) (n.part ∷ others ns) (others ns)) ≡ (b || has_wave entries n.part) && all (has_wave entries) (others ns)
        go true = refl
        go false = refl

    slots-all : (k : ℕ) (ns : List Need) → length ns ≤ k → all (passes waves i number) (slots k ns) ≡ all (has_wave entries) (others ns)
    unfolding all select wait_place
    slots-all zero [] l = refl
    slots-all zero (n ∷ ns) l = absurd (omega arith)
    slots-all (suc k) [] l = rw (eq-eqb i i refl) (slots-all k [] (omega arith))
    slots-all (suc k) (n ∷ ns) l =
        ap (λ (b : Bool). b && all (passes waves i number) (slots k ns)) (need-passes n)
        ∙ ap (λ (b : Bool). (eqb n.part (cluster_at t i).part || has_wave entries n.part) && b) (slots-all k ns (omega arith))
        ∙ sym (others-all n ns)

    four-slots : (ns : List Need) → slots needs_most ns
        ≡ wait_place t i (get_elem? ns 0) ∷ wait_place t i (get_elem? ns 1) ∷ wait_place t i (get_elem? ns 2) ∷ wait_place t i (get_elem? ns 3) ∷ []
    four-slots [] = refl
    four-slots (a ∷ []) = refl
    four-slots (a ∷ b ∷ []) = refl
    four-slots (a ∷ b ∷ c ∷ []) = refl
    four-slots (a ∷ b ∷ c ∷ d ∷ ns) = refl

    module _ (long : length waits ≡ waits_most) (size : ℕ) (sized : size ≡ length t) (of : WaitsOf waits t size) where
      own-place : i < clusters_most
      own-place = omega (arith, few-clusters t ok)

      slot_at : (j : ℕ) → j < needs_most → drop j (waits_from waits i) ≡ wait_at t i j ∷ drop (j + 1) (waits_from waits i)
      unfolding WaitsOf
      slot_at j l = waits-step waits i long own-place j l ∙ ap (λ (place : ℕ). place ∷ drop (j + 1) (waits_from waits i)) (of i j (omega arith) l)

      waits-are : waits_from waits i ≡ slots needs_most (cluster_at t i).needs
      waits-are =
          slot_at 0 (omega arith)
          ∙ ap (λ (l : List ℕ). wait_at t i 0 ∷ l) (slot_at 1 (omega arith))
          ∙ ap (λ (l : List ℕ). wait_at t i 0 ∷ wait_at t i 1 ∷ l) (slot_at 2 (omega arith))
          ∙ ap (λ (l : List ℕ). wait_at t i 0 ∷ wait_at t i 1 ∷ wait_at t i 2 ∷ l) (slot_at 3 (omega arith))
          ∙ ap (λ (l : List ℕ). wait_at t i 0 ∷ wait_at t i 1 ∷ wait_at t i 2 ∷ wait_at t i 3 ∷ l) (waits_end waits i long own-place 4 (omega arith))
          ∙ sym (four-slots (cluster_at t i).needs)

      few-needs : length (cluster_at t i).needs ≤ needs_most
      few-needs = leb-true _ _ (cluster-few-needs (cluster_at t i) (cluster-at-within 0 t i (cluster 0 no_version []) (rising-clusters t ok) h))

      can-start-is : all (passes waves i number) (waits_from waits i) ≡ startable entries (cluster_at t i)
      unfolding startable others_needed
      can-start-is = ap (all (passes waves i number)) waits-are ∙ slots-all needs_most (cluster_at t i).needs few-needs

      -- what the code asks is what the definition says
      pub joins-is : (closing : Bool) → joins_at closing waits waves i number ≡ joins closing entries (cluster_at t i)
      joins-is closing =
          ap (λ (b : Bool). b && (closing || all (passes waves i number) (waits_from waits i)))
          (ap (λ (w : ℕ). eqb w 0) (waved i h ∙ own-wave h) ∙ zero-wave (wave_of (cluster_at t i).part entries))
          ∙ ap (λ (b : Bool). not (has_wave entries (cluster_at t i).part) && (closing || b)) can-start-is

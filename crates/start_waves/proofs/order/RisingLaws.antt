-- What is found in a table by a part number, and in one of rising part numbers the place of each. Assumes nothing.
use Prim.Native.Nat.{ℕ, zero, suc, ◌<◌}
use mathlib.Core.Path.{◌≡◌, refl, sym, ap, ◌∙◌}
use mathlib.Core.Bool.{true}
use mathlib.Core.List.{[], ◌∷◌}
use mathlib.Core.Option.{none, some}
use native.Mathlib.Omega.{arith}
use lib.Dec.{eqb, ltb}
use lib.ListN.{length, take}
use borrow.Author.Tests.{ltb-true, ltb-false, eqb-true, eq-eqb, ne_eqb}
use Rattle.base.proofs.Tests.{bool_cases, none-some}
use Rattle.clusters.specs.Cluster.{Cluster}
use Rattle.clusters.specs.Table.{Table, find, rising_above}
use Rattle.clusters.proofs.Limits.{rising-says, rising-is}
use Rattle.start_waves.specs.Waits.{cluster_at}

-- the part number of the cluster found is the one that it was looked for by
pub found_part : (part : ℕ) (t : Table) (c : Cluster) → find part t ≡ some c → c.part ≡ part
unfolding find
found_part part [] c e = none-some e
found_part part (d ∷ t) c e =
    bool_cases (eqb part d.part) (λ z. let first : some d ≡ some c = rw z at e in let same : d ≡ c = cc in sym (eqb-true part d.part z ∙ ap (λ (x : Cluster). x.part) same))
    λ z. found_part part t c (rw z at e)

above-last : (last : ℕ) (t : Table) (j : ℕ) → rising_above last t ≡ true → j < length t → last < (cluster_at t j).part
above-last last [] j h l = absurd (omega arith)
above-last last (c ∷ t) zero h l = (rising-says last c t h).over
above-last last (c ∷ t) (suc j) h l =
    let r = rising-says last c t h in
    omega (arith, r.over, above-last c.part t j r.rest (omega arith))

parts-rise : (last : ℕ) (t : Table) (i j : ℕ) → rising_above last t ≡ true → i < j → j < length t → (cluster_at t i).part < (cluster_at t j).part
parts-rise last [] i j h k l = absurd (omega arith)
parts-rise last (c ∷ t) i zero h k l = absurd (omega arith)
parts-rise last (c ∷ t) zero (suc j) h k l = above-last c.part t j (rising-says last c t h).rest (omega arith)
parts-rise last (c ∷ t) (suc i) (suc j) h k l = parts-rise c.part t i j (rising-says last c t h).rest (omega arith) (omega arith)

-- a part number stands at one place
pub one_place : (last : ℕ) (t : Table) (i j : ℕ) → rising_above last t ≡ true → i < length t → j < length t → (cluster_at t i).part ≡ (cluster_at t j).part → i ≡ j
one_place last t i j h k l e =
    bool_cases (ltb i j) (λ z. absurd (omega (arith, parts-rise last t i j h (ltb-true i j z) l)))
    λ z. bool_cases (ltb j i) (λ y. absurd (omega (arith, parts-rise last t j i h (ltb-true j i y) k)))
    λ y. omega (arith, ltb-false i j z, ltb-false j i y)

-- the cluster at a place is found by its part number
pub found_at : (last : ℕ) (t : Table) (i : ℕ) → rising_above last t ≡ true → i < length t → find (cluster_at t i).part t ≡ some (cluster_at t i)
unfolding find
found_at last [] i h l = absurd (omega arith)
found_at last (c ∷ t) zero h l = rw (eq-eqb c.part c.part refl)
found_at last (c ∷ t) (suc i) h l =
    let r = rising-says last c t h in
    rw (ne_eqb (cluster_at t i).part c.part (λ e. omega (arith, above-last c.part t i r.rest (omega arith)))) (found_at c.part t i r.rest (omega arith))

-- and not before it
pub not-before : (last : ℕ) (t : Table) (i : ℕ) → rising_above last t ≡ true → i < length t → find (cluster_at t i).part (take i t) ≡ none
unfolding find
not-before last [] i h l = absurd (omega arith)
not-before last (c ∷ t) zero h l = refl
not-before last (c ∷ t) (suc i) h l =
    let r = rising-says last c t h in
    rw (ne_eqb (cluster_at t i).part c.part (λ e. omega (arith, above-last c.part t i r.rest (omega arith)))) (not-before c.part t i r.rest (omega arith))

pub rising-first : (last : ℕ) (t : Table) (i : ℕ) → rising_above last t ≡ true → rising_above last (take i t) ≡ true
rising-first last [] zero h = h
rising-first last [] (suc i) h = h
rising-first last (c ∷ t) zero h = unfold rising_above in refl
rising-first last (c ∷ t) (suc i) h =
    let r = rising-says last c t h in
    rising-is last c (take i t) (record { over = r.over; within = r.within; rest = rising-first c.part t i r.rest })

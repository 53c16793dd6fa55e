-- Two rising tables in which the same is found of every part number are equal. Assumes nothing.
use mathlib.Core.Path.{◌≡◌, refl, sym, ap, ◌∙◌}
use mathlib.Core.Bool.{true}
use mathlib.Core.List.{[], ◌∷◌}
use mathlib.Core.Option.{none, some}
use Prim.Native.Nat.{ℕ, ◌≤◌}
use native.Mathlib.Omega.{arith}
use lib.Dec.{eqb, ltb}
use borrow.Author.Tests.{ltb-true, ltb-false, eqb-true, eq-eqb, ne_eqb}
use Rattle.base.proofs.Tests.{bool_cases, none-some}
use Rattle.clusters.specs.Cluster.{Cluster}
use Rattle.clusters.specs.Table.{Table, find, rising_above}
use Rattle.clusters.proofs.Limits.{rising-says, rising-is}

-- nothing is found up to the number that a table rises from
pub find-low : (part last : ℕ) (t : Table) → part ≤ last → rising_above last t ≡ true → find part t ≡ none
unfolding find
find-low part last [] l h = refl
find-low part last (c ∷ t) l h =
    let r = rising-says last c t h in
    rw (ne_eqb part c.part (λ e. omega (arith, r.over))) (find-low part c.part t (omega (arith, r.over)) r.rest)

found_first : (c : Cluster) (t : Table) → find c.part (c ∷ t) ≡ some c
unfolding find
found_first c t = rw (eq-eqb c.part c.part refl)

-- a first cluster below all of the other table's
not_there : (c : Cluster) (t u : Table) → rising_above c.part u ≡ true → find c.part (c ∷ t) ≡ find c.part u → ⊥
not_there c t u h e = none-some (sym (find-low c.part c.part u (omega arith) h) ∙ sym e ∙ found_first c t)

-- what is found behind equal first clusters
found-behind : (c : Cluster) (t u : Table) → rising_above c.part t ≡ true → rising_above c.part u ≡ true → (part : ℕ) → find part (c ∷ t) ≡ find part (c ∷ u) → find part t ≡ find part u
unfolding find
found-behind c t u h k part e =
    bool_cases (eqb part c.part)
    (λ z. let low : part ≤ c.part = omega (arith, eqb-true part c.part z) in find-low part c.part t low h ∙ sym (find-low part c.part u low k))
    λ z. rw z at e

pub same-found : (last other : ℕ) (t u : Table) → rising_above last t ≡ true → rising_above other u ≡ true → ((part : ℕ) → find part t ≡ find part u) → t ≡ u
same-found last other [] [] h k e = refl
same-found last other [] (d ∷ u) h k e = absurd (not_there d u [] (unfold rising_above in refl) (sym (e d.part)))
same-found last other (c ∷ t) [] h k e = absurd (not_there c t [] (unfold rising_above in refl) (e c.part))
same-found last other (c ∷ t) (d ∷ u) h k e =
    let r = rising-says last c t h in
    let s = rising-says other d u k in
    let ih : (y : ℕ) → rising_above y u ≡ true → ((part : ℕ) → find part t ≡ find part u) → t ≡ u = λ y z. same-found c.part y t u r.rest z in
    bool_cases (ltb c.part d.part)
    (λ l. absurd (not_there c t (d ∷ u) (rising-is c.part d u (record { over = ltb-true _ _ l; within = s.within; rest = s.rest })) (e c.part)))
    λ l. bool_cases (ltb d.part c.part)
    (λ m. absurd (not_there d u (c ∷ t) (rising-is d.part c t (record { over = ltb-true _ _ m; within = r.within; rest = r.rest })) (sym (e d.part))))
    λ m. let same : c.part ≡ d.part = omega (arith, ltb-false c.part d.part l, ltb-false d.part c.part m) in
    let found : some c ≡ find c.part (d ∷ u) = sym (found_first c t) ∙ e c.part in
    let first : d ≡ c = cc (rw same at found, found_first d u) in
    let k' : rising_above c.part u ≡ true = rw same s.rest in
    rw first (ap (λ (l : Table). c ∷ l) (ih c.part k' λ part. found-behind c t u r.rest k' part (rw first at (e part))))

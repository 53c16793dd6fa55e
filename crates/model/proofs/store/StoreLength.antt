-- A block put and packages deleted leave the store's length, and an area is as long as its package's size, where the areas fit
-- the store. Assumes nothing.
use mathlib.Core.Path.{◌≡◌, refl, sym, subst}
use mathlib.Core.Bool.{Bool}
use mathlib.Core.List.{List, [], ◌∷◌}
use mathlib.Core.Option.{some}
use Prim.Native.Nat.{ℕ, ◌+◌, ◌≤◌}
use native.Mathlib.Omega.{arith}
use lib.Dec.{eqb}
use lib.ListN.{length, drop, length-append, length-take, length-drop, length-replicate}
use lib.Seq.{length-take-le}
use Rattle.base.proofs.Tests.{bool_cases, none-some}
use Rattle.model.specs.State.{Package, Store}
use Rattle.model.specs.Areas.{declared, find, area_of, overwritten, block_put, remaining, remaining_areas, deleted}
use Rattle.model.proofs.soundness.Packages.{declared-kept}

-- the areas behind the first fit what is left of the store
pub rest-fits : (p : Package) (ps : List Package) (store : Store) → declared (p ∷ ps) ≤ length store
    → declared ps ≤ length (drop p.size store)
unfolding declared
rest-fits p ps store h = rw length-drop (omega arith)

-- so does the first
pub first_fits : (p : Package) (ps : List Package) (store : Store) → declared (p ∷ ps) ≤ length store → p.size ≤ length store
unfolding declared
first_fits p ps store h = omega arith

pub length-overwritten : (at : ℕ) (block bytes : List ℕ) → at + length block ≤ length bytes
    → length (overwritten at block bytes) ≡ length bytes
unfolding overwritten
length-overwritten at block bytes h = simp (length-append, length-take, length-drop) (omega arith)

pub length-block-put : (id : ℕ) (block : List ℕ) (ps : List Package) (p : Package) (store : Store) → find id ps ≡ some p
    → p.received + length block ≤ p.size → declared ps ≤ length store → length (block_put id block ps store) ≡ length store
unfolding find block_put
length-block-put id block [] p store e l h = none-some e
length-block-put id block (q ∷ ps) p store e l h =
    let ih : find id ps ≡ some p → length (block_put id block ps (drop q.size store)) ≡ length (drop q.size store) =
    λ y. length-block-put id block ps p (drop q.size store) y l (rest-fits q ps store h) in
    let first : q.size ≤ length store = first_fits q ps store h in
    bool_cases (eqb id q.id)
    (λ b. let same : q ≡ p = cc (rw b at e) in
    let fits : q.received + length block ≤ q.size = subst (λ (y : Package). y.received + length block ≤ y.size) (sym same) l in
    rw b (length-overwritten q.received block store (omega arith)))
    λ b. rw b (simp length-append (omega (arith, ih (rw b at e), length-take-le q.size store first, length-drop q.size store)))

module _ (keeps : Package → Bool) where
  pub length-kept-areas : (ps : List Package) (store : Store) → declared ps ≤ length store
      → length (remaining_areas keeps ps store) ≡ declared (remaining keeps ps)
  unfolding declared remaining remaining_areas
  length-kept-areas [] store h = refl
  length-kept-areas (q ∷ ps) store h =
      let ih = length-kept-areas ps (drop q.size store) (rest-fits q ps store h) in
      bool_cases (keeps q) (λ b. rw b (simp length-append (omega (arith, ih, length-take-le q.size store (first_fits q ps store h))))) λ b. rw b ih

  pub length-deleted : (ps : List Package) (store : Store) → declared ps ≤ length store → length (deleted keeps ps store) ≡ length store
  unfolding deleted
  length-deleted ps store h =
      simp (length-append, length-replicate, length-drop) (omega (arith, length-kept-areas ps store h, declared-kept keeps ps))

pub length-area : (id : ℕ) (ps : List Package) (p : Package) (store : Store) → find id ps ≡ some p → declared ps ≤ length store
    → length (area_of id ps store) ≡ p.size
unfolding find area_of
length-area id [] p store e h = none-some e
length-area id (q ∷ ps) p store e h =
    let ih : find id ps ≡ some p → length (area_of id ps (drop q.size store)) ≡ p.size = λ y. length-area id ps p (drop q.size store) y (rest-fits q ps store h) in
    bool_cases (eqb id q.id)
    (λ b. let same : q ≡ p = cc (rw b at e) in rw (b, ← same) (length-take-le q.size store (first_fits q ps store h)))
    λ b. rw b (ih (rw b at e))

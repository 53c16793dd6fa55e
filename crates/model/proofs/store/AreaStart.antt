-- Areas by their start in the store: the area of a package is as many bytes as its size from its start on, and a block is put at the
-- start plus the bytes received. The start goes by ids and sizes alone. Assumes nothing.
use mathlib.Core.Path.{◌≡◌, refl, sym, ap, ap₂, ◌∙◌}
use mathlib.Core.Bool.{cond}
use mathlib.Core.List.{List, [], ◌∷◌, ◌++◌, append_assoc}
use mathlib.Core.Option.{some}
use Prim.Native.Nat.{ℕ, ◌+◌, ◌≤◌}
use native.Mathlib.Nat.{add_assoc}
use native.Mathlib.Omega.{arith}
use lib.Dec.{eqb}
use lib.ListN.{length, take, drop}
use lib.Seq.{take-add, drop-drop}
use Rattle.base.proofs.Tests.{bool_cases, none-some}
use Rattle.model.specs.State.{Package, Store}
use Rattle.model.specs.Areas.{declared, find, area_start, area_of, overwritten, block_put, changed}

-- an area lies within the declared sizes
pub area-inside : (id : ℕ) (ps : List Package) (p : Package) → find id ps ≡ some p → area_start id ps + p.size ≤ declared ps
unfolding find area_start declared
area-inside id [] p e = none-some e
area-inside id (q ∷ ps) p e =
    let ih : find id ps ≡ some p → area_start id ps + p.size ≤ declared ps = area-inside id ps p in
    bool_cases (eqb id q.id) (λ b. let same : q ≡ p = cc (rw b at e) in rw b (omega (arith, ap (λ (y : Package). y.size) same)))
    λ b. rw b (omega (arith, ih (rw b at e)))

pub area-at-start : (id : ℕ) (ps : List Package) (p : Package) (store : Store) → find id ps ≡ some p
    → area_of id ps store ≡ take p.size (drop (area_start id ps) store)
unfolding find area_start area_of
area-at-start id [] p store e = none-some e
area-at-start id (q ∷ ps) p store e =
    let ih : find id ps ≡ some p → area_of id ps (drop q.size store) ≡ take p.size (drop (area_start id ps) (drop q.size store)) =
    area-at-start id ps p (drop q.size store) in
    bool_cases (eqb id q.id) (λ b. let same : q ≡ p = cc (rw b at e) in rw b (ap (λ (y : Package). take y.size store) same))
    λ b. rw b (ih (rw b at e) ∙ ap (take p.size) (drop-drop (area_start id ps) q.size store))

-- bytes overwritten behind the first `size`
overwritten-behind : (size at : ℕ) (block bytes : List ℕ)
    → overwritten (size + at) block bytes ≡ take size bytes ++ overwritten at block (drop size bytes)
unfolding overwritten
overwritten-behind size at block bytes =
    ap₂ (λ (x y : List ℕ). x ++ (block ++ y)) (take-add size at bytes)
    (ap (λ (n : ℕ). drop n bytes) (add_assoc size at (length block)) ∙ sym (drop-drop (at + length block) size bytes))
    ∙ append_assoc (take size bytes) (take at (drop size bytes)) (block ++ drop (at + length block) (drop size bytes))

pub block-at-start : (id : ℕ) (block : List ℕ) (ps : List Package) (p : Package) (store : Store) → find id ps ≡ some p
    → block_put id block ps store ≡ overwritten (area_start id ps + p.received) block store
unfolding find area_start block_put
block-at-start id block [] p store e = none-some e
block-at-start id block (q ∷ ps) p store e =
    let ih : find id ps ≡ some p
    → block_put id block ps (drop q.size store) ≡ overwritten (area_start id ps + p.received) block (drop q.size store) =
    block-at-start id block ps p (drop q.size store) in
    bool_cases (eqb id q.id)
    (λ b. let same : q ≡ p = cc (rw b at e) in
    let there : q.received ≡ 0 + p.received = omega (arith, ap (λ (y : Package). y.received) same) in
    rw b (ap (λ (n : ℕ). overwritten n block store) there))
    λ b. rw b
    (ap (λ (l : List ℕ). take q.size store ++ l) (ih (rw b at e))
    ∙ sym (overwritten-behind q.size (area_start id ps + p.received) block store)
    ∙ ap (λ (n : ℕ). overwritten n block store) (sym (add_assoc q.size (area_start id ps) p.received)))

-- a change that keeps id and size keeps every start
pub start-changed : (id : ℕ) (change : Package → Package) → ((q : Package) → (change q).id ≡ q.id)
    → ((q : Package) → (change q).size ≡ q.size)
    → (other : ℕ) (ps : List Package) → area_start other (changed id change ps) ≡ area_start other ps
unfolding area_start changed
start-changed id change same_id same_size other [] = refl
start-changed id change same_id same_size other (q ∷ ps) =
    let ih = start-changed id change same_id same_size other ps in
    bool_cases (eqb id q.id) (λ b. rw b (rw (same_id q, same_size q)))
    λ b. rw b (ap (λ (n : ℕ). cond (eqb other q.id) 0 (q.size + n)) ih)

-- Blocks put at different ids commute, and so do the changes of their packages: the order in which they come does not matter. Each
-- block fits its area and the areas fit the store. It is for lists in which neighbouring blocks of different ids are exchanged; no other
-- proof needs it. Assumes nothing.
use mathlib.Core.Path.{◌≡◌, refl, sym, ap, ap₂, subst, ◌∙◌}
use mathlib.Core.Bool.{true, false, cond}
use mathlib.Core.List.{List, [], ◌∷◌, ◌++◌, append_assoc}
use mathlib.Core.Option.{some}
use Prim.Native.Nat.{ℕ, ◌+◌, ◌≤◌}
use native.Mathlib.Omega.{arith}
use lib.Dec.{eqb}
use lib.ListN.{length, take, drop}
use lib.Seq.{length-take-le, take-append-le, drop-append-le}
use borrow.Author.Tests.{eqb-true}
use Rattle.base.proofs.Tests.{bool_cases, none-some}
use Rattle.model.specs.State.{Package, Store}
use Rattle.model.specs.Areas.{declared, find, overwritten, block_put, changed}
use Rattle.model.proofs.store.StoreLength.{rest-fits, first_fits}
use Rattle.model.proofs.store.AreaLaws.{take-front, drop-front, take-overwritten, drop-overwritten}

-- bytes overwritten within the front
overwritten-front : (at : ℕ) (block front rest : List ℕ) → at + length block ≤ length front
    → overwritten at block (front ++ rest) ≡ overwritten at block front ++ rest
unfolding overwritten
overwritten-front at block front rest h =
    ap₂ (λ (x y : List ℕ). x ++ (block ++ y)) (take-append-le at front rest (omega arith))
    (drop-append-le (at + length block) front rest h)
    ∙ ap (λ (l : List ℕ). take at front ++ l) (sym (append_assoc block (drop (at + length block) front) rest))
    ∙ sym (append_assoc (take at front) (block ++ drop (at + length block) front) rest)

-- a block of the first package, and one of a package behind it
first-commutes : (q : Package) (ps : List Package) (id other : ℕ) (block others : List ℕ) (store : Store) → eqb id q.id ≡ true
    → eqb other q.id ≡ false → q.received + length block ≤ q.size → q.size ≤ length store
    → block_put other others (q ∷ ps) (block_put id block (q ∷ ps) store) ≡ block_put id block (q ∷ ps) (block_put other others (q ∷ ps) store)
unfolding block_put
first-commutes q ps id other block others store b n h fits =
    let put = block_put other others ps (drop q.size store) in
    let long : q.received + length block ≤ length (take q.size store) = omega (arith, length-take-le q.size store fits) in
    rw (b, n)
    (ap₂ (λ (x y : List ℕ). x ++ block_put other others ps y)
    (take-overwritten q.received block store q.size h fits)
    (drop-overwritten q.received block store q.size h fits)
    ∙ sym (overwritten-front q.received block (take q.size store) put long))

-- two blocks of packages behind the first
put-behind : (q : Package) (ps : List Package) (id other : ℕ) (block others : List ℕ) (store : Store) → eqb id q.id ≡ false
    → eqb other q.id ≡ false → q.size ≤ length store
    → block_put id block (q ∷ ps) (block_put other others (q ∷ ps) store)
    ≡ take q.size store ++ block_put id block ps (block_put other others ps (drop q.size store))
unfolding block_put
put-behind q ps id other block others store b n fits =
    let put = block_put other others ps (drop q.size store) in
    rw (b, n, take-front q.size store put fits, drop-front q.size store put fits)

-- two blocks of different packages
pub blocks-commute : (id other : ℕ) (block others : List ℕ) (ps : List Package) (p o : Package) (store : Store) → eqb other id ≡ false
    → find id ps ≡ some p → p.received + length block ≤ p.size → find other ps ≡ some o → o.received + length others ≤ o.size
    → declared ps ≤ length store
    → block_put other others ps (block_put id block ps store) ≡ block_put id block ps (block_put other others ps store)
unfolding find
blocks-commute id other block others [] p o store n e h f k fits = none-some e
blocks-commute id other block others (q ∷ ps) p o store n e h f k fits =
    let size = first_fits q ps store fits in
    let ih : find id ps ≡ some p → find other ps ≡ some o
    → block_put other others ps (block_put id block ps (drop q.size store))
    ≡ block_put id block ps (block_put other others ps (drop q.size store)) =
    λ x y. blocks-commute id other block others ps p o (drop q.size store) n x h y k (rest-fits q ps store fits) in
    bool_cases (eqb id q.id)
    (λ b. let same : q ≡ p = cc (rw b at e) in
    let apart : eqb other q.id ≡ false = subst (λ (x : ℕ). eqb other x ≡ false) (eqb-true id q.id b) n in
    first-commutes q ps id other block others store b apart
    (subst (λ (y : Package). y.received + length block ≤ y.size) (sym same) h) size)
    λ b. bool_cases (eqb other q.id)
    (λ c. let same : q ≡ o = cc (rw c at f) in
    sym (first-commutes q ps other id others block store c b
    (subst (λ (y : Package). y.received + length others ≤ y.size) (sym same) k) size))
    λ c. put-behind q ps other id others block store c b size
    ∙ ap (λ (l : List ℕ). take q.size store ++ l) (ih (rw b at e) (rw c at f))
    ∙ sym (put-behind q ps id other block others store b c size)

-- a block goes by its own package's received bytes and by ids and sizes alone, so the change of another package does not move it
pub block-put-changed : (id other : ℕ) (block : List ℕ) (change : Package → Package) → ((q : Package) → (change q).id ≡ q.id)
    → ((q : Package) → (change q).size ≡ q.size) → eqb id other ≡ false → (ps : List Package) (store : Store)
    → block_put id block (changed other change ps) store ≡ block_put id block ps store
unfolding block_put changed
block-put-changed id other block change same_id same_size n [] store = refl
block-put-changed id other block change same_id same_size n (q ∷ ps) store =
    let ih = block-put-changed id other block change same_id same_size n ps (drop q.size store) in
    bool_cases (eqb other q.id)
    (λ b. let apart : eqb id q.id ≡ false = subst (λ (x : ℕ). eqb id x ≡ false) (eqb-true other q.id b) n in
    let there : eqb id (change q).id ≡ false = ap (eqb id) (same_id q) ∙ apart in
    rw (b, there, apart) (ap (λ (n : ℕ). take n store ++ block_put id block ps (drop n store)) (same_size q)))
    λ b. rw b (ap (λ (l : List ℕ). cond (eqb id q.id) (overwritten q.received block store) (take q.size store ++ l)) ih)

-- and the changes of two packages commute
pub changes-commute : (id other : ℕ) (change change' : Package → Package) → ((q : Package) → (change q).id ≡ q.id)
    → ((q : Package) → (change' q).id ≡ q.id) → eqb other id ≡ false → (ps : List Package)
    → changed other change' (changed id change ps) ≡ changed id change (changed other change' ps)
unfolding changed
changes-commute id other change change' same_id same-id' n [] = refl
changes-commute id other change change' same_id same-id' n (q ∷ ps) =
    let ih = changes-commute id other change change' same_id same-id' n ps in
    bool_cases (eqb id q.id)
    (λ b. let apart : eqb other q.id ≡ false = subst (λ (x : ℕ). eqb other x ≡ false) (eqb-true id q.id b) n in
    let there : eqb other (change q).id ≡ false = ap (eqb other) (same_id q) ∙ apart in
    rw (b, there, apart, b))
    λ b. bool_cases (eqb other q.id)
    (λ c. let there : eqb id (change' q).id ≡ false = ap (eqb id) (same-id' q) ∙ b in rw (b, c, there))
    λ c. rw (b, c, b) (ap (λ (l : List Package). q ∷ l) ih)

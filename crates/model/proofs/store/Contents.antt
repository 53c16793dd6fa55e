-- What the store holds, said of the whole store at once: the areas back to back, each its accepted blocks joined with 0 behind
-- them, and 0 behind the last area. Starting, a block, a change of a package's state and deleting keep this. Assumes nothing.
use mathlib.Core.Path.{◌≡◌, refl, sym, ap, ap₂, ◌∙◌}
use mathlib.Core.Bool.{Bool}
use mathlib.Core.List.{List, [], ◌∷◌, ◌++◌, append_assoc, append-nil}
use mathlib.Core.Option.{some}
use Prim.Native.Nat.{ℕ, ◌+◌, ◌-◌, ◌≤◌}
use native.Mathlib.Nat.{sub-zero}
use native.Mathlib.Omega.{arith}
use lib.Dec.{eqb}
use lib.ListN.{length, take, drop, length-append, length-replicate, replicate-append-replicate}
use lib.Seq.{take_at, drop_at}
use borrow.Author.Tests.{eqb-true}
use Rattle.base.proofs.Tests.{bool_cases, none-some}
use Rattle.model.specs.State.{PackageState, Package, Store}
use Rattle.model.specs.Areas.{declared, free, find, area_of, remaining, remaining_areas, deleted, new_package, in_state, changed}
use Rattle.model.specs.Invariant.{zeros, area_bytes, areas_bytes, Filled, AllFilled, Holds}
use Rattle.model.proofs.soundness.Packages.{found-id}

-- ---- lengths

pub length-area : (blocks : ℕ → List ℕ) (p : Package) → Filled blocks p → length (area_bytes blocks p) ≡ p.size
unfolding area_bytes
length-area blocks p f = simp (length-append, length-replicate) (omega (arith, f.joined, f.within))

pub length-areas : (blocks : ℕ → List ℕ) (ps : List Package) → AllFilled blocks ps → length (areas_bytes blocks ps) ≡ declared ps
unfolding areas_bytes declared
length-areas blocks [] f = refl
length-areas blocks (p ∷ ps) f =
    length-append (area_bytes blocks p) (areas_bytes blocks ps)
    ∙ ap₂ (λ (x y : ℕ). x + y) (length-area blocks p f.0) (length-areas blocks ps f.1)

-- ---- the first area of a store, and what stands behind it

module _ (blocks : ℕ → List ℕ) (p : Package) (ps : List Package) (rest : List ℕ) (f : Filled blocks p) where
  pub take-first : take p.size (areas_bytes blocks (p ∷ ps) ++ rest) ≡ area_bytes blocks p
  unfolding areas_bytes
  take-first = rw append_assoc (take_at (area_bytes blocks p) (areas_bytes blocks ps ++ rest) p.size (length-area blocks p f))

  pub drop-first : drop p.size (areas_bytes blocks (p ∷ ps) ++ rest) ≡ areas_bytes blocks ps ++ rest
  unfolding areas_bytes
  drop-first = rw append_assoc (drop_at (area_bytes blocks p) (areas_bytes blocks ps ++ rest) p.size (length-area blocks p f))

-- ---- a package starts

pub areas-started : (blocks : ℕ → List ℕ) (id size : ℕ) (ps : List Package) → blocks id ≡ []
    → areas_bytes blocks (ps ++ new_package id size ∷ []) ≡ areas_bytes blocks ps ++ zeros size
unfolding areas_bytes area_bytes
areas-started blocks id size [] e = rw (e, sub-zero size) (append-nil (zeros size))
areas-started blocks id size (p ∷ ps) e =
    ap (λ (l : List ℕ). area_bytes blocks p ++ l) (areas-started blocks id size ps e)
    ∙ sym (append_assoc (area_bytes blocks p) (areas_bytes blocks ps) (zeros size))

pub filled-started : (blocks : ℕ → List ℕ) (id size : ℕ) (ps : List Package) → blocks id ≡ [] → AllFilled blocks ps
    → AllFilled blocks (ps ++ new_package id size ∷ [])
filled-started blocks id size [] e f = (record { joined = ap length e; within = omega arith }, tt)
filled-started blocks id size (p ∷ ps) e f = (f.0, filled-started blocks id size ps e f.1)

pub replicate-split : (size behind : ℕ) → size ≤ behind → zeros behind ≡ zeros size ++ zeros (behind - size)
replicate-split size behind h =
    let e : size + (behind - size) ≡ behind = omega arith in
    sym (replicate-append-replicate size (behind - size) 0 ∙ ap (λ (n : ℕ). zeros n) e)

pub holds-started : (blocks : ℕ → List ℕ) (id size : ℕ) (ps : List Package) (store : Store) → blocks id ≡ [] → size ≤ free ps store
    → Holds blocks ps store → Holds blocks (ps ++ new_package id size ∷ []) store
unfolding free
holds-started blocks id size ps store e h k =
    let total : length store ≡ declared ps + k.behind =
    ap length k.bytes ∙ length-append (areas_bytes blocks ps) (zeros k.behind)
    ∙ ap₂ (λ (x y : ℕ). x + y) (length-areas blocks ps k.filled) (length-replicate k.behind 0) in
    record {
      filled = filled-started blocks id size ps e k.filled;
      behind = k.behind - size;
      bytes = k.bytes
          ∙ ap (λ (l : List ℕ). areas_bytes blocks ps ++ l) (replicate-split size k.behind (omega arith))
          ∙ sym (append_assoc (areas_bytes blocks ps) (zeros size) (zeros (k.behind - size)))
          ∙ ap (λ (l : List ℕ). l ++ zeros (k.behind - size)) (sym (areas-started blocks id size ps e));
    }

-- ---- a package comes into another state

areas-state : (blocks : ℕ → List ℕ) (id : ℕ) (then : PackageState) (ps : List Package)
    → areas_bytes blocks (changed id (in_state then) ps) ≡ areas_bytes blocks ps
unfolding areas_bytes area_bytes changed
areas-state blocks id then [] = refl
areas-state blocks id then (p ∷ ps) =
    let ih = areas-state blocks id then ps in
    bool_cases (eqb id p.id) (λ b. rw b) λ b. rw b (ap (λ (l : List ℕ). area_bytes blocks p ++ l) ih)

filled-state : (blocks : ℕ → List ℕ) (id : ℕ) (then : PackageState) (ps : List Package) → AllFilled blocks ps
    → AllFilled blocks (changed id (in_state then) ps)
unfolding changed
filled-state blocks id then [] f = tt
filled-state blocks id then (p ∷ ps) f =
    let ih = filled-state blocks id then ps f.1 in
    bool_cases (eqb id p.id) (λ b. rw b (record { joined = f.0.joined; within = f.0.within }, f.1)) λ b. rw b (f.0, ih)

pub holds-state : (blocks : ℕ → List ℕ) (id : ℕ) (then : PackageState) (ps : List Package) (store : Store) → Holds blocks ps store
    → Holds blocks (changed id (in_state then) ps) store
holds-state blocks id then ps store k =
    record {
      filled = filled-state blocks id then ps k.filled;
      behind = k.behind;
      bytes = k.bytes ∙ ap (λ (l : List ℕ). l ++ zeros k.behind) (sym (areas-state blocks id then ps));
    }

-- ---- packages are deleted

areas-kept : (blocks : ℕ → List ℕ) (keeps : Package → Bool) (ps : List Package) (rest : List ℕ) → AllFilled blocks ps
    → remaining_areas keeps ps (areas_bytes blocks ps ++ rest) ≡ areas_bytes blocks (remaining keeps ps)
unfolding remaining_areas remaining
areas-kept blocks keeps [] rest f = unfold areas_bytes in refl
areas-kept blocks keeps (p ∷ ps) rest f =
    let ih = areas-kept blocks keeps ps rest f.1 in
    rw (take-first blocks p ps rest f.0, drop-first blocks p ps rest f.0, ih)
    (bool_cases (keeps p) (λ b. rw b (unfold areas_bytes in refl)) λ b. rw b)

filled-kept : (blocks : ℕ → List ℕ) (keeps : Package → Bool) (ps : List Package) → AllFilled blocks ps
    → AllFilled blocks (remaining keeps ps)
unfolding remaining
filled-kept blocks keeps [] f = tt
filled-kept blocks keeps (p ∷ ps) f =
    let ih = filled-kept blocks keeps ps f.1 in
    bool_cases (keeps p) (λ b. rw b (f.0, ih)) λ b. rw b ih

pub holds-deleted : (blocks : ℕ → List ℕ) (keeps : Package → Bool) (ps : List Package) (store : Store) → Holds blocks ps store
    → Holds blocks (remaining keeps ps) (deleted keeps ps store)
unfolding deleted
holds-deleted blocks keeps ps store k =
    let freed = declared ps - declared (remaining keeps ps) in
    let end : drop (declared ps) store ≡ zeros k.behind =
    ap (drop (declared ps)) k.bytes
    ∙ drop_at (areas_bytes blocks ps) (zeros k.behind) (declared ps) (length-areas blocks ps k.filled) in
    let front : remaining_areas keeps ps store ≡ areas_bytes blocks (remaining keeps ps) =
    ap (remaining_areas keeps ps) k.bytes ∙ areas-kept blocks keeps ps (zeros k.behind) k.filled in
    record {
      filled = filled-kept blocks keeps ps k.filled;
      behind = freed + k.behind;
      bytes = ap₂ (λ (x y : List ℕ). x ++ (zeros freed ++ y)) front end
          ∙ ap (λ (l : List ℕ). areas_bytes blocks (remaining keeps ps) ++ l) (replicate-append-replicate freed k.behind 0);
    }

-- ---- what the store holds, read

read-area : (blocks : ℕ → List ℕ) (id : ℕ) (ps : List Package) (p : Package) (rest : List ℕ) → find id ps ≡ some p → AllFilled blocks ps
    → area_of id ps (areas_bytes blocks ps ++ rest) ≡ area_bytes blocks p
unfolding find area_of
read-area blocks id [] p rest e f = none-some e
read-area blocks id (q ∷ ps) p rest e f =
    let ih : find id ps ≡ some p → area_of id ps (areas_bytes blocks ps ++ rest) ≡ area_bytes blocks p =
    λ y. read-area blocks id ps p rest y f.1 in
    bool_cases (eqb id q.id)
    (λ b. let same : q ≡ p = cc (rw b at e) in rw b (take-first blocks q ps rest f.0 ∙ ap (area_bytes blocks) same))
    λ b. rw b (rw (drop-first blocks q ps rest f.0) (ih (rw b at e)))

module _ (blocks : ℕ → List ℕ) (ps : List Package) (store : Store) (k : Holds blocks ps store) where
  -- an area is its accepted blocks joined, and 0 behind them
  pub area-holds : (id : ℕ) (p : Package) → find id ps ≡ some p → area_of id ps store ≡ blocks id ++ zeros (p.size - p.received)
  area-holds id p e =
      ap (area_of id ps) k.bytes
      ∙ read-area blocks id ps p (zeros k.behind) e k.filled
      ∙ (unfold area_bytes in ap (λ (n : ℕ). blocks n ++ zeros (p.size - p.received)) (found-id id ps p e))

  -- the area of a package of which all bytes came is its blocks joined
  pub whole-area : (id : ℕ) (p : Package) → find id ps ≡ some p → p.received ≡ p.size → area_of id ps store ≡ blocks id
  whole-area id p e w =
      let none_left : p.size - p.received ≡ 0 = omega arith in
      area-holds id p e ∙ rw none_left (append-nil (blocks id))

  store_length : length store ≡ declared ps + k.behind
  store_length =
      ap length k.bytes ∙ length-append (areas_bytes blocks ps) (zeros k.behind)
      ∙ ap₂ (λ (x y : ℕ). x + y) (length-areas blocks ps k.filled) (length-replicate k.behind 0)

  -- behind the last area the store is 0
  pub end-holds : drop (declared ps) store ≡ zeros (free ps store)
  unfolding free
  end-holds =
      let e : k.behind ≡ length store - declared ps = omega (arith, store_length) in
      ap (drop (declared ps)) k.bytes
      ∙ drop_at (areas_bytes blocks ps) (zeros k.behind) (declared ps) (length-areas blocks ps k.filled)
      ∙ ap zeros e

-- the joined blocks of a package have as many bytes as it has received
pub received-joined : (blocks : ℕ → List ℕ) (id : ℕ) (ps : List Package) (p : Package) → find id ps ≡ some p → AllFilled blocks ps
    → length (blocks id) ≡ p.received
unfolding find
received-joined blocks id [] p e f = none-some e
received-joined blocks id (q ∷ ps) p e f =
    let ih : find id ps ≡ some p → length (blocks id) ≡ p.received = λ y. received-joined blocks id ps p y f.1 in
    bool_cases (eqb id q.id)
    (λ b. let same : q ≡ p = cc (rw b at e) in rw (← same) (rw (eqb-true id q.id b) f.0.joined))
    λ b. ih (rw b at e)

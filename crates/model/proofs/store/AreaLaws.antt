-- Areas in a store of any bytes: a block goes into its own area behind the received bytes and leaves the other areas and the bytes
-- behind the last one; deleting leaves the areas of the packages that are kept, with 0 up to the old end and the rest behind; a
-- started package's area is the first of the free bytes. Assumes nothing.
use mathlib.Core.Path.{◌≡◌, refl, sym, ap, ap₂, subst, ◌∙◌}
use mathlib.Core.Bool.{Bool, true, false, cond}
use mathlib.Core.List.{List, [], ◌∷◌, ◌++◌, append_assoc}
use mathlib.Core.Option.{none, some}
use Prim.Native.Nat.{ℕ, ◌+◌, ◌-◌, ◌≤◌}
use native.Mathlib.Omega.{arith}
use lib.Dec.{eqb}
use lib.ListN.{length, take, drop, replicate, length-append, length-take}
use lib.Seq.{length-take-le, take_at, drop_at, take-take, drop-drop, take-append-add, drop-append-add}
use borrow.Author.Tests.{eqb-true, eq-eqb}
use Rattle.base.proofs.Parts.{drop-take}
use Rattle.base.proofs.Tests.{bool_cases, none-some}
use Rattle.model.specs.State.{Package, State, Store}
use Rattle.model.specs.Areas.{declared, free, find, area_of, overwritten, block_put, remaining, remaining_areas, deleted, new_package, changed}
use Rattle.model.specs.Sound.{sound}
use Rattle.model.proofs.soundness.SoundFacts.{sound-says}
use Rattle.model.proofs.store.StoreLength.{rest-fits, first_fits, length-kept-areas}

-- "Declared sizes plus free bytes equal the store's length."
pub declared-plus-free : (s : State) (store : Store) → sound s store ≡ true
    → declared s.transfers.packages + free s.transfers.packages store ≡ length store
unfolding free
declared-plus-free s store h = let ok = sound-says s store h in omega (arith, ok.fit)

-- ---- a store whose first area is known

pub take-front : (size : ℕ) (store rest : List ℕ) → size ≤ length store → take size (take size store ++ rest) ≡ take size store
take-front size store rest h = take_at (take size store) rest size (length-take-le size store h)

pub drop-front : (size : ℕ) (store rest : List ℕ) → size ≤ length store → drop size (take size store ++ rest) ≡ rest
drop-front size store rest h = drop_at (take size store) rest size (length-take-le size store h)

-- ---- bytes overwritten within the first `size`

module _ (at : ℕ) (block bytes : List ℕ) (size : ℕ) (h : at + length block ≤ size) (fits : size ≤ length bytes) where
  written-length : length (take at bytes ++ block) ≡ at + length block
  written-length = simp (length-append, length-take) (omega arith)

  pub take-overwritten : take size (overwritten at block bytes) ≡ overwritten at block (take size bytes)
  unfolding overwritten
  take-overwritten =
      let n = at + length block in
      let more = size - n in
      let front = take at bytes ++ block in
      let long : size ≡ length front + more = omega (arith, written-length) in
      let split : size ≡ n + more = omega arith in
      let left : take size (front ++ drop n bytes) ≡ front ++ take more (drop n bytes) =
      subst (λ (x : ℕ). take x (front ++ drop n bytes) ≡ front ++ take more (drop n bytes)) (sym long)
      (take-append-add front (drop n bytes) more) in
      let right : drop n (take size bytes) ≡ take more (drop n bytes) =
      subst (λ (x : ℕ). drop n (take x bytes) ≡ take more (drop n bytes)) (sym split) (drop-take n more bytes (omega arith)) in
      ap (take size) (sym (append_assoc (take at bytes) block (drop n bytes)))
      ∙ left
      ∙ append_assoc (take at bytes) block (take more (drop n bytes))
      ∙ sym (ap₂ (λ (x y : List ℕ). x ++ (block ++ y)) (take-take at size bytes (omega arith)) right)

  pub drop-overwritten : drop size (overwritten at block bytes) ≡ drop size bytes
  unfolding overwritten
  drop-overwritten =
      let n = at + length block in
      let more = size - n in
      let front = take at bytes ++ block in
      let long : size ≡ length front + more = omega (arith, written-length) in
      let split : n + more ≡ size = omega arith in
      ap (drop size) (sym (append_assoc (take at bytes) block (drop n bytes)))
      ∙ subst (λ (x : ℕ). drop x (front ++ drop n bytes) ≡ drop more (drop n bytes)) (sym long) (drop-append-add front (drop n bytes) more)
      ∙ drop-drop more n bytes
      ∙ ap (λ (x : ℕ). drop x bytes) split

-- ---- a block is put

module _ (id : ℕ) (block : List ℕ) where
  -- what a block put leaves of the areas and of the bytes behind them
  pub record Put (ps : List Package) (p : Package) (store : Store) : Type 0 where
    -- the own area has the block behind the received bytes
    pub own : area_of id ps (block_put id block ps store) ≡ overwritten p.received block (area_of id ps store)
    pub others : (other : ℕ) → eqb other id ≡ false → area_of other ps (block_put id block ps store) ≡ area_of other ps store
    pub end : drop (declared ps) (block_put id block ps store) ≡ drop (declared ps) store

  put-here : (q : Package) (ps : List Package) (store : Store) → eqb id q.id ≡ true → q.received + length block ≤ q.size
      → q.size ≤ length store → Put (q ∷ ps) q store
  unfolding area_of block_put declared
  put-here q ps store b h fits =
      let behind = drop-overwritten q.received block store q.size h fits in
      record {
        own = rw b (take-overwritten q.received block store q.size h fits);
        others = λ other n.
            let apart : eqb other q.id ≡ false = subst (λ (x : ℕ). eqb other x ≡ false) (eqb-true id q.id b) n in
            rw (b, apart) (ap (area_of other ps) behind);
        end = rw b
            (sym (drop-drop (declared ps) q.size (overwritten q.received block store)) ∙ ap (drop (declared ps)) behind
            ∙ drop-drop (declared ps) q.size store);
      }

  put-there : (q : Package) (ps : List Package) (p : Package) (store : Store) → eqb id q.id ≡ false → q.size ≤ length store
      → Put ps p (drop q.size store) → Put (q ∷ ps) p store
  unfolding area_of block_put declared
  put-there q ps p store b fits ih =
      let put = block_put id block ps (drop q.size store) in
      record {
        own = rw (b, drop-front q.size store put fits) ih.own;
        others = λ other n. rw (b, take-front q.size store put fits, drop-front q.size store put fits)
            (ap (cond (eqb other q.id) (take q.size store)) (ih.others other n));
        end = rw b
            (sym (drop-drop (declared ps) q.size (take q.size store ++ put))
            ∙ ap (drop (declared ps)) (drop-front q.size store put fits)
            ∙ ih.end ∙ drop-drop (declared ps) q.size store);
      }

  pub put_is : (ps : List Package) (p : Package) (store : Store) → find id ps ≡ some p → p.received + length block ≤ p.size
      → declared ps ≤ length store → Put ps p store
  unfolding find
  put_is [] p store e h fits = none-some e
  put_is (q ∷ ps) p store e h fits =
      let ih : find id ps ≡ some p → Put ps p (drop q.size store) =
      λ y. put_is ps p (drop q.size store) y h (rest-fits q ps store fits) in
      bool_cases (eqb id q.id)
      (λ b. let same : q ≡ p = cc (rw b at e) in
      subst (λ (y : Package). Put (q ∷ ps) y store) same
      (put-here q ps store b (subst (λ (y : Package). y.received + length block ≤ y.size) (sym same) h) (first_fits q ps store fits)))
      λ b. put-there q ps p store b (first_fits q ps store fits) (ih (rw b at e))

-- ---- a package changes: areas go by ids and sizes alone

pub area-changed : (id : ℕ) (change : Package → Package) → ((q : Package) → (change q).id ≡ q.id)
    → ((q : Package) → (change q).size ≡ q.size)
    → (other : ℕ) (ps : List Package) (store : Store) → area_of other (changed id change ps) store ≡ area_of other ps store
unfolding area_of changed
area-changed id change same_id same_size other [] store = refl
area-changed id change same_id same_size other (q ∷ ps) store =
    let ih = area-changed id change same_id same_size other ps (drop q.size store) in
    bool_cases (eqb id q.id) (λ b. rw b (rw (same_id q, same_size q)))
    λ b. rw b (ap (cond (eqb other q.id) (take q.size store)) ih)

-- ---- packages are deleted

module _ (keeps : Package → Bool) where
  kept-area : (id : ℕ) (ps : List Package) (p : Package) (store : Store) (rest : List ℕ) → find id ps ≡ some p → keeps p ≡ true
      → declared ps ≤ length store
      → area_of id (remaining keeps ps) (remaining_areas keeps ps store ++ rest) ≡ area_of id ps store
  unfolding find area_of remaining remaining_areas
  kept-area id [] p store rest e h fits = none-some e
  kept-area id (q ∷ ps) p store rest e h fits =
      let first = first_fits q ps store fits in
      let later = remaining_areas keeps ps (drop q.size store) in
      let ih : find id ps ≡ some p → area_of id (remaining keeps ps) (later ++ rest) ≡ area_of id ps (drop q.size store) =
      λ y. kept-area id ps p (drop q.size store) rest y h (rest-fits q ps store fits) in
      bool_cases (eqb id q.id)
      (λ b. let same : q ≡ p = cc (rw b at e) in
      let k : keeps q ≡ true = ap keeps same ∙ h in
      rw (k, b) (rw (append_assoc (take q.size store) later rest) (take-front q.size store (later ++ rest) first)))
      λ b. bool_cases (keeps q)
      (λ k. rw (k, b) (rw (append_assoc (take q.size store) later rest, drop-front q.size store (later ++ rest) first) (ih (rw b at e))))
      λ k. rw (k, b) (ih (rw b at e))

  -- the areas of the packages that are kept stay
  pub deleted-area : (id : ℕ) (ps : List Package) (p : Package) (store : Store) → find id ps ≡ some p → keeps p ≡ true
      → declared ps ≤ length store
      → area_of id (remaining keeps ps) (deleted keeps ps store) ≡ area_of id ps store
  unfolding deleted
  deleted-area id ps p store e h fits = kept-area id ps p store _ e h fits

  -- behind the last area stand 0 up to the old end, and then the rest as it was
  pub deleted-end : (ps : List Package) (store : Store) → declared ps ≤ length store
      → drop (declared (remaining keeps ps)) (deleted keeps ps store)
      ≡ replicate (declared ps - declared (remaining keeps ps)) 0 ++ drop (declared ps) store
  unfolding deleted
  deleted-end ps store fits = drop_at (remaining_areas keeps ps store) _ (declared (remaining keeps ps)) (length-kept-areas keeps ps store fits)

-- ---- a package starts

-- its area is the first of the free bytes
pub started-area : (id size : ℕ) (ps : List Package) (store : Store) → find id ps ≡ none
    → area_of id (ps ++ new_package id size ∷ []) store ≡ take size (drop (declared ps) store)
unfolding find area_of declared
started-area id size [] store e = rw (eq-eqb id id refl)
started-area id size (q ∷ ps) store e =
    let ih : find id ps ≡ none → area_of id (ps ++ new_package id size ∷ []) (drop q.size store)
    ≡ take size (drop (declared ps) (drop q.size store)) =
    started-area id size ps (drop q.size store) in
    bool_cases (eqb id q.id) (λ b. none-some (sym (rw b at e)))
    λ b. rw b (ih (rw b at e) ∙ ap (take size) (drop-drop (declared ps) q.size store))

-- and the others stay
pub others-started : (other id size : ℕ) (ps : List Package) (p : Package) (store : Store) → find other ps ≡ some p
    → area_of other (ps ++ new_package id size ∷ []) store ≡ area_of other ps store
unfolding find area_of
others-started other id size [] p store e = none-some e
others-started other id size (q ∷ ps) p store e =
    let ih : find other ps ≡ some p → area_of other (ps ++ new_package id size ∷ []) (drop q.size store)
    ≡ area_of other ps (drop q.size store) =
    others-started other id size ps p (drop q.size store) in
    bool_cases (eqb other q.id) (λ b. rw b) λ b. rw b (ih (rw b at e))

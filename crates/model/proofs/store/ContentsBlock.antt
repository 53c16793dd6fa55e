-- A block put behind the received bytes of its package: the store holds the blocks joined with it, as the journal has them.
-- Assumes nothing.
use mathlib.Core.Path.{◌≡◌, refl, sym, ap, ap₂, subst, ◌∙◌}
use mathlib.Core.Bool.{true, false}
use mathlib.Core.List.{List, [], ◌∷◌, ◌++◌, append_assoc}
use mathlib.Core.Option.{some}
use Prim.Native.Nat.{ℕ, ◌+◌, ◌-◌, ◌≤◌}
use native.Mathlib.Nat.{sub-add-eq}
use native.Mathlib.Omega.{arith}
use lib.Dec.{eqb}
use lib.ListN.{length, take, drop, length-append, length-replicate}
use lib.Seq.{take_at, drop_at, drop-append-le, drop-append-add}
use borrow.Author.Tests.{eqb-true, ne_eqb}
use Rattle.base.proofs.Tests.{bool_cases, none-some}
use Rattle.model.specs.State.{Package, Store}
use Rattle.model.specs.Areas.{find, overwritten, block_put, with_block, changed}
use Rattle.model.specs.Sound.{packages_rise}
use Rattle.model.specs.Journal.{block_joined}
use Rattle.model.proofs.soundness.SoundFacts.{Rises, rises-says}
use Rattle.model.specs.Invariant.{zeros, area_bytes, areas_bytes, Filled, AllFilled, Holds}
use Rattle.model.proofs.store.Contents.{take-first, drop-first, replicate-split}

-- ---- a block is put

-- the front of an area with a block behind the received bytes
put_front : (had block rest : List ℕ) (left : ℕ) → length block ≤ left
    → overwritten (length had) block ((had ++ zeros left) ++ rest) ≡ ((had ++ block) ++ zeros (left - length block)) ++ rest
unfolding overwritten
put_front had block rest left h =
    let front : take (length had) ((had ++ zeros left) ++ rest) ≡ had =
    ap (take (length had)) (append_assoc had (zeros left) rest) ∙ take_at had (zeros left ++ rest) (length had) refl in
    let gone : drop (length block) (zeros left) ≡ zeros (left - length block) =
    ap (drop (length block)) (replicate-split (length block) left h)
    ∙ drop_at (zeros (length block)) (zeros (left - length block)) (length block) (length-replicate (length block) 0) in
    let back : drop (length had + length block) ((had ++ zeros left) ++ rest) ≡ zeros (left - length block) ++ rest =
    ap (drop (length had + length block)) (append_assoc had (zeros left) rest)
    ∙ drop-append-add had (zeros left ++ rest) (length block)
    ∙ drop-append-le (length block) (zeros left) rest (rw length-replicate h)
    ∙ ap (λ (l : List ℕ). l ++ rest) gone in
    ap₂ (λ (x y : List ℕ). x ++ (block ++ y)) front back
    ∙ sym (append_assoc (had ++ block) (zeros (left - length block)) rest ∙ append_assoc had block (zeros (left - length block) ++ rest))

module _ (blocks : ℕ → List ℕ) (id : ℕ) (block : List ℕ) where
  abbrev joined : ℕ → List ℕ
  joined = block_joined id block blocks

  pub joined_same : (other : ℕ) → eqb id other ≡ true → joined other ≡ blocks other ++ block
  unfolding block_joined
  joined_same other e = rw e

  pub joined-other : (other : ℕ) → eqb id other ≡ false → joined other ≡ blocks other
  unfolding block_joined
  joined-other other e = rw e

  -- the areas of packages with other ids
  area-other : (p : Package) → eqb id p.id ≡ false → area_bytes joined p ≡ area_bytes blocks p
  unfolding area_bytes
  area-other p e = ap (λ (l : List ℕ). l ++ zeros (p.size - p.received)) (joined-other p.id e)

  filled-other : (p : Package) → eqb id p.id ≡ false → Filled blocks p → Filled joined p
  filled-other p e f = record { joined = ap length (joined-other p.id e) ∙ f.joined; within = f.within }

  areas-other : (last next : ℕ) (ps : List Package) → packages_rise last next ps ≡ true → id ≤ last
      → areas_bytes joined ps ≡ areas_bytes blocks ps
  unfolding areas_bytes
  areas-other last next [] h l = refl
  areas-other last next (p ∷ ps) h l =
      let r = rises-says last next p ps h in
      ap₂ (λ (x y : List ℕ). x ++ y) (area-other p (ne_eqb id p.id λ e. omega (arith, r.over)))
      (areas-other p.id next ps r.rest (omega (arith, r.over)))

  all-filled-other : (last next : ℕ) (ps : List Package) → packages_rise last next ps ≡ true → id ≤ last → AllFilled blocks ps
      → AllFilled joined ps
  all-filled-other last next [] h l f = tt
  all-filled-other last next (p ∷ ps) h l f =
      let r = rises-says last next p ps h in (
        filled-other p (ne_eqb id p.id λ e. omega (arith, r.over)) f.0,
        all-filled-other p.id next ps r.rest (omega (arith, r.over)) f.1,
      )

  -- the area of the package itself
  area-put : (q : Package) (rest : List ℕ) → eqb id q.id ≡ true → q.received + length block ≤ q.size → Filled blocks q
      → overwritten q.received block (area_bytes blocks q ++ rest) ≡ area_bytes joined (with_block (length block) q) ++ rest
  unfolding area_bytes
  area-put q rest b h f =
      let left = q.size - q.received in
      ap (λ (n : ℕ). overwritten n block ((blocks q.id ++ zeros left) ++ rest)) (sym f.joined)
      ∙ put_front (blocks q.id) block rest left (omega arith)
      ∙ ap₂ (λ (x : List ℕ) (n : ℕ). (x ++ zeros n) ++ rest) (sym (joined_same q.id b))
      (sym (sub-add-eq q.size q.received (length block)))

  filled_put : (q : Package) → eqb id q.id ≡ true → q.received + length block ≤ q.size → Filled blocks q
      → Filled joined (with_block (length block) q)
  filled_put q b h f =
      record {
        joined = ap length (joined_same q.id b) ∙ length-append (blocks q.id) block ∙ ap (λ (n : ℕ). n + length block) f.joined;
        within = h;
      }

  record Put (ps : List Package) : Type 0 where
    bytes : (rest : List ℕ)
        → block_put id block ps (areas_bytes blocks ps ++ rest) ≡ areas_bytes joined (changed id (with_block (length block)) ps) ++ rest
    filled : AllFilled joined (changed id (with_block (length block)) ps)

  put-here : (last next : ℕ) (q : Package) (ps : List Package) → Rises last next q ps → eqb id q.id ≡ true
      → q.received + length block ≤ q.size
      → AllFilled blocks (q ∷ ps) → Put (q ∷ ps)
  unfolding block_put changed areas_bytes
  put-here last next q ps r b h f =
      let low : id ≤ q.id = omega (arith, eqb-true id q.id b) in
      record {
        bytes = λ rest. rw b
            (ap (overwritten q.received block) (append_assoc (area_bytes blocks q) (areas_bytes blocks ps) rest)
            ∙ area-put q (areas_bytes blocks ps ++ rest) b h f.0
            ∙ ap (λ (l : List ℕ). area_bytes joined (with_block (length block) q) ++ (l ++ rest))
            (sym (areas-other q.id next ps r.rest low))
            ∙ sym (append_assoc (area_bytes joined (with_block (length block) q)) (areas_bytes joined ps) rest));
        filled = rw b (filled_put q b h f.0, all-filled-other q.id next ps r.rest low f.1);
      }

  put-there : (q : Package) (ps : List Package) → eqb id q.id ≡ false → AllFilled blocks (q ∷ ps) → Put ps → Put (q ∷ ps)
  unfolding block_put changed areas_bytes
  put-there q ps b f ih =
      record {
        bytes = λ rest. rw (b, take-first blocks q ps rest f.0, drop-first blocks q ps rest f.0)
            (ap₂ (λ (x y : List ℕ). x ++ y) (sym (area-other q b)) (ih.bytes rest)
            ∙ sym (append_assoc (area_bytes joined q) (areas_bytes joined (changed id (with_block (length block)) ps)) rest));
        filled = rw b (filled-other q b f.0, ih.filled);
      }

  puts : (last next : ℕ) (ps : List Package) (p : Package) → packages_rise last next ps ≡ true → find id ps ≡ some p
      → p.received + length block ≤ p.size
      → AllFilled blocks ps → Put ps
  unfolding find
  puts last next [] p rise e h f = none-some e
  puts last next (q ∷ ps) p rise e h f =
      let r = rises-says last next q ps rise in
      let ih : find id ps ≡ some p → Put ps = λ y. puts q.id next ps p r.rest y h f.1 in
      bool_cases (eqb id q.id)
      (λ b. let same : q ≡ p = cc (rw b at e) in
      put-here last next q ps r b (subst (λ (y : Package). y.received + length block ≤ y.size) (sym same) h) f)
      λ b. put-there q ps b f (ih (rw b at e))

  pub holds-put : (last next : ℕ) (ps : List Package) (p : Package) (store : Store) → packages_rise last next ps ≡ true
      → find id ps ≡ some p
      → p.received + length block ≤ p.size → Holds blocks ps store
      → Holds joined (changed id (with_block (length block)) ps) (block_put id block ps store)
  holds-put last next ps p store rise e h k =
      let put = puts last next ps p rise e h k.filled in
      record { filled = put.filled; behind = k.behind; bytes = ap (block_put id block ps) k.bytes ∙ put.bytes (zeros k.behind) }

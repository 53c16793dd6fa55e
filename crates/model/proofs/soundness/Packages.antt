-- Packages in rising order of their ids: a package found, one started behind the others, one changed, and those kept by a
-- choice. Assumes nothing.
use mathlib.Core.Path.{◌≡◌, refl, sym, ap, subst, ◌∙◌}
use mathlib.Core.Bool.{Bool, true, false, cond, true≢false}
use mathlib.Core.List.{List, [], ◌∷◌, ◌++◌}
use mathlib.Core.Option.{Option, none, some}
use Prim.Native.Nat.{ℕ, suc, ◌+◌, ◌≤◌, ◌<◌}
use native.Mathlib.Omega.{arith}
use lib.Dec.{eqb}
use lib.ListN.{length}
use borrow.Author.Tests.{eqb-true, le-leb}
use Rattle.base.proofs.Tests.{bool_cases, none-some}
use Rattle.model.specs.State.{Package}
use Rattle.model.specs.Areas.{declared, find, no_package, package_of, remaining, new_package, changed}
use Rattle.model.specs.Sound.{received_sound, packages_rise}
use Rattle.model.specs.Step.{unknown}
use Rattle.model.proofs.soundness.SoundFacts.{rises-says, rises-is}

-- ---- a package found

-- where an id is known, it is that of `package_of`
pub known_is : (id : ℕ) (ps : List Package) → unknown id ps ≡ false → find id ps ≡ some (package_of id ps)
unfolding package_of
known_is id ps = go (find id ps)
  where
    go : (o : Option Package) → elim o as (λ x. Bool) [ none ↦ true | some p ↦ false ] ≡ false
        → o ≡ some (elim o [ none ↦ no_package | some p ↦ p ])
    go none h = absurd (true≢false h)
    go (some p) h = refl

-- and a package that is found is that of `package_of`
module _ (id : ℕ) (ps : List Package) (p : Package) (e : find id ps ≡ some p) where
  pub found-known : unknown id ps ≡ false
  found-known = rw (unknown, e)

  pub found-is : package_of id ps ≡ p
  unfolding package_of
  found-is = rw (package_of, e)

-- after a change of the package with an id, that package is found changed and the others as they were
module _ (id : ℕ) (change : Package → Package) (same_id : (q : Package) → (change q).id ≡ q.id) where
  pub find-changed : (ps : List Package) (p : Package) → find id ps ≡ some p → find id (changed id change ps) ≡ some (change p)
  unfolding find changed
  find-changed [] p e = none-some e
  find-changed (q ∷ ps) p e =
      let ih : find id ps ≡ some p → find id (changed id change ps) ≡ some (change p) = find-changed ps p in
      bool_cases (eqb id q.id)
      (λ b. let same : q ≡ p = cc (rw b at e) in
      let there : eqb id (change q).id ≡ true = ap (eqb id) (same_id q) ∙ b in
      rw (b, there) (ap (λ (y : Package). some (change y)) same))
      λ b. rw b (rw b (ih (rw b at e)))

  pub find-changed-other : (other : ℕ) → eqb other id ≡ false → (ps : List Package) → find other (changed id change ps) ≡ find other ps
  unfolding find changed
  find-changed-other other apart [] = refl
  find-changed-other other apart (q ∷ ps) =
      let ih = find-changed-other other apart ps in
      bool_cases (eqb id q.id)
      (λ b. let n : eqb other q.id ≡ false = subst (λ (x : ℕ). eqb other x ≡ false) (eqb-true id q.id b) apart in
      let there : eqb other (change q).id ≡ false = ap (eqb other) (same_id q) ∙ n in
      rw (b, there, n))
      λ b. rw b (ap (cond (eqb other q.id) (some q)) ih)

-- what a package says for itself, wherever it stands
pub record Fine (next : ℕ) (p : Package) : Type 0 where
  pub below : p.id < next
  pub sized : 1 ≤ p.size
  pub received : received_sound p ≡ true
  pub blocks : p.blocks ≤ p.received

pub found-fine : (last next id : ℕ) (ps : List Package) (p : Package) → packages_rise last next ps ≡ true → find id ps ≡ some p → Fine next p
unfolding find
found-fine last next id [] p h e = none-some e
found-fine last next id (q ∷ ps) p h e =
    let r = rises-says last next q ps h in
    let ih : find id ps ≡ some p → Fine next p = found-fine q.id next id ps p r.rest in
    bool_cases (eqb id q.id)
    (λ b. let same : q ≡ p = cc (rw b at e) in
    subst (λ (y : Package). Fine next y) same (record { below = r.below; sized = r.sized; received = r.received; blocks = r.blocks }))
    λ b. ih (rw b at e)

pub found-id : (id : ℕ) (ps : List Package) (p : Package) → find id ps ≡ some p → p.id ≡ id
unfolding find
found-id id [] p e = none-some e
found-id id (q ∷ ps) p e =
    let ih : find id ps ≡ some p → p.id ≡ id = found-id id ps p in
    bool_cases (eqb id q.id) (λ b. let same : q ≡ p = cc (rw b at e) in sym (eqb-true id q.id b ∙ ap (λ (y : Package). y.id) same)) λ b. ih (rw b at e)

pub found-above : (last next id : ℕ) (ps : List Package) (p : Package) → packages_rise last next ps ≡ true → find id ps ≡ some p → last < id
unfolding find
found-above last next id [] p h e = none-some e
found-above last next id (q ∷ ps) p h e =
    let r = rises-says last next q ps h in
    let ih : find id ps ≡ some p → q.id < id = found-above q.id next id ps p r.rest in
    bool_cases (eqb id q.id) (λ b. omega (arith, eqb-true id q.id b, r.over)) λ b. omega (arith, ih (rw b at e), r.over)

-- ---- rising

rise-from : (last higher next : ℕ) (ps : List Package) → last ≤ higher → packages_rise higher next ps ≡ true
    → packages_rise last next ps ≡ true
rise-from last higher next [] l h = unfold packages_rise in refl
rise-from last higher next (p ∷ ps) l h =
    let r = rises-says higher next p ps h in
    rises-is last next p ps (record { over = omega (arith, r.over); below = r.below; sized = r.sized; received = r.received; blocks = r.blocks; rest = r.rest })

-- a package started
pub rise-started : (last next size : ℕ) (ps : List Package) → last < next → 1 ≤ size → packages_rise last next ps ≡ true
    → packages_rise last (next + 1) (ps ++ new_package next size ∷ []) ≡ true
rise-started last next size [] l z h =
    rises-is last (next + 1) (new_package next size) []
    (record { over = l; below = omega arith; sized = z; received = unfold received_sound in le-leb 0 size (omega arith); blocks = omega arith; rest = unfold packages_rise in refl })
rise-started last next size (p ∷ ps) l z h =
    let r = rises-says last next p ps h in
    rises-is last (next + 1) p (ps ++ new_package next size ∷ [])
    (record { over = r.over; below = omega (arith, r.below); sized = r.sized; received = r.received; blocks = r.blocks; rest = rise-started p.id next size ps r.below z r.rest })

-- packages kept
pub rise-kept : (keeps : Package → Bool) (last next : ℕ) (ps : List Package) → packages_rise last next ps ≡ true
    → packages_rise last next (remaining keeps ps) ≡ true
unfolding remaining
rise-kept keeps last next [] h = h
rise-kept keeps last next (p ∷ ps) h =
    let r = rises-says last next p ps h in
    let ih = rise-kept keeps p.id next ps r.rest in
    bool_cases (keeps p)
    (λ b. rw b (rises-is last next p (remaining keeps ps) (record { over = r.over; below = r.below; sized = r.sized; received = r.received; blocks = r.blocks; rest = ih })))
    λ b. rw b (rise-from last p.id next (remaining keeps ps) (omega (arith, r.over)) ih)

module _ (id : ℕ) (change : Package → Package) (same_id : (q : Package) → (change q).id ≡ q.id) where
  -- a package changed into one that is fine
  pub rise-changed : (last next : ℕ) (ps : List Package) (p : Package) → find id ps ≡ some p → (Fine next p → Fine next (change p))
      → packages_rise last next ps ≡ true → packages_rise last next (changed id change ps) ≡ true
  unfolding find changed
  rise-changed last next [] p e up h = h
  rise-changed last next (q ∷ ps) p e up h =
      let r = rises-says last next q ps h in
      let ih : find id ps ≡ some p → packages_rise q.id next (changed id change ps) ≡ true = λ y. rise-changed q.id next ps p y up r.rest in
      bool_cases (eqb id q.id)
      (λ b. let same : q ≡ p = cc (rw b at e) in
      let before : Fine next p = subst (λ (y : Package). Fine next y) same (record { below = r.below; sized = r.sized; received = r.received; blocks = r.blocks }) in
      let after : Fine next (change q) = subst (λ (y : Package). Fine next (change y)) (sym same) (up before) in
      let over : last < (change q).id = rw (same_id q) r.over in
      rw b (rises-is last next (change q) ps
      (record { over = over; below = after.below; sized = after.sized; received = after.received; blocks = after.blocks; rest = subst (λ (y : ℕ). packages_rise y next ps ≡ true) (sym (same_id q)) r.rest })))
      λ b. rw b (rises-is last next q (changed id change ps)
      (record { over = r.over; below = r.below; sized = r.sized; received = r.received; blocks = r.blocks; rest = ih (rw b at e) }))

-- ---- how many, and their declared sizes

pub declared-started : (ps : List Package) (p : Package) → declared (ps ++ p ∷ []) ≡ declared ps + p.size
unfolding declared
declared-started [] p = omega arith
declared-started (q ∷ ps) p = let ih = declared-started ps p in omega arith

pub declared-changed : (id : ℕ) (change : Package → Package) → ((q : Package) → (change q).size ≡ q.size) → (ps : List Package)
    → declared (changed id change ps) ≡ declared ps
unfolding declared changed
declared-changed id change same [] = refl
declared-changed id change same (q ∷ ps) =
    let ih = declared-changed id change same ps in
    bool_cases (eqb id q.id) (λ b. rw b (omega (arith, same q))) λ b. rw b (omega arith)

pub length-changed : (id : ℕ) (change : Package → Package) (ps : List Package) → length (changed id change ps) ≡ length ps
unfolding changed
length-changed id change [] = refl
length-changed id change (q ∷ ps) = let ih = length-changed id change ps in bool_cases (eqb id q.id) (λ b. rw b) λ b. rw b (ap suc ih)

module _ (keeps : Package → Bool) where
  pub declared-kept : (ps : List Package) → declared (remaining keeps ps) ≤ declared ps
  unfolding declared remaining
  declared-kept [] = omega arith
  declared-kept (q ∷ ps) = let ih = declared-kept ps in bool_cases (keeps q) (λ b. rw b (omega arith)) λ b. rw b (omega arith)

  pub length-kept : (ps : List Package) → length (remaining keeps ps) ≤ length ps
  unfolding remaining
  length-kept [] = omega arith
  length-kept (q ∷ ps) = let ih = length-kept ps in bool_cases (keeps q) (λ b. rw b (omega arith)) λ b. rw b (omega arith)

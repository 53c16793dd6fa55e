-- How many packages are in a state, and which is processing: when one is started, one changes, or some are kept.
-- Assumes nothing.
use mathlib.Core.Path.{◌≡◌, refl, ap, ◌∙◌}
use mathlib.Core.Bool.{Bool, true, false, not, cond, ◌&&◌, ◌||◌}
use mathlib.Core.List.{List, [], ◌∷◌, ◌++◌}
use mathlib.Core.Option.{some}
use Prim.Native.Nat.{ℕ, ◌+◌, ◌≤◌}
use native.Mathlib.Omega.{arith}
use lib.Dec.{eqb}
use borrow.Author.Tests.{eqb-true, ne_eqb}
use Rattle.base.proofs.Tests.{and_left, and_right, and_both, or-second, bool_cases, clash, none-some}
use Rattle.model.specs.State.{PackageState, Package}
use Rattle.model.specs.Areas.{find, remaining, changed, count_in}
use Rattle.model.specs.Sound.{packages_rise}
use Rattle.model.proofs.soundness.SoundFacts.{rises-says}

-- the number of a test: 1 where it holds
abbrev pub one : Bool → ℕ
one b = cond b 1 0

-- ---- how many

module _ (is : PackageState → Bool) where
  pub count-started : (ps : List Package) (p : Package) → count_in is (ps ++ p ∷ []) ≡ count_in is ps + one (is p.state)
  unfolding count_in
  count-started [] p = omega arith
  count-started (q ∷ ps) p = let ih = count-started ps p in omega arith

  -- the changed package leaves one state and comes into another
  pub count-changed : (id : ℕ) (change : Package → Package) (ps : List Package) (p : Package) → find id ps ≡ some p
      → count_in is (changed id change ps) + one (is p.state) ≡ count_in is ps + one (is (change p).state)
  unfolding count_in find changed
  count-changed id change [] p e = none-some e
  count-changed id change (q ∷ ps) p e =
      let ih : find id ps ≡ some p → count_in is (changed id change ps) + one (is p.state) ≡ count_in is ps + one (is (change p).state) = count-changed id change ps p in
      bool_cases (eqb id q.id) (λ b. let same : q ≡ p = cc (rw b at e) in rw (b, same) (omega arith)) λ b. let later = ih (rw b at e) in rw b (omega arith)

  -- a package found in the state is counted
  pub counted-found : (id : ℕ) (ps : List Package) (p : Package) → find id ps ≡ some p → is p.state ≡ true → 1 ≤ count_in is ps
  unfolding count_in find
  counted-found id [] p e h = none-some e
  counted-found id (q ∷ ps) p e h =
      let ih : find id ps ≡ some p → 1 ≤ count_in is ps = λ y. counted-found id ps p y h in
      bool_cases (eqb id q.id) (λ b. let same : q ≡ p = cc (rw b at e) in rw (same, h) (omega arith)) λ b. let later = ih (rw b at e) in omega arith

-- ---- a choice that keeps every package in a state

unfoldable pub keeps_all : (PackageState → Bool) → (Package → Bool) → List Package → Bool
keeps_all is keeps [] = true
keeps_all is keeps (p ∷ ps) = (not (is p.state) || keeps p) && keeps_all is keeps ps

pub kept-where : (a b : Bool) → not a || b ≡ true → b ≡ false → a ≡ false
kept-where true b h e = clash h e
kept-where false b h e = refl

module _ (is : PackageState → Bool) (keeps : Package → Bool) where
  pub keeps-each : ((p : Package) → is p.state ≡ true → keeps p ≡ true) → (ps : List Package) → keeps_all is keeps ps ≡ true
  unfolding keeps_all
  keeps-each h [] = refl
  keeps-each h (p ∷ ps) =
      and_both (not (is p.state) || keeps p) _
      (bool_cases (is p.state) (λ b. or-second (not (is p.state)) _ (h p b)) λ b. rw b refl)
      (keeps-each h ps)

  pub count_kept : (ps : List Package) → keeps_all is keeps ps ≡ true → count_in is (remaining keeps ps) ≡ count_in is ps
  unfolding keeps_all count_in remaining
  count_kept [] h = refl
  count_kept (p ∷ ps) h =
      let ih = count_kept ps (and_right (not (is p.state) || keeps p) _ h) in
      bool_cases (keeps p) (λ b. rw b (omega arith))
      λ b. rw (b, kept-where (is p.state) (keeps p) (and_left _ _ h) b) (omega arith)

-- leaving out the package of one id keeps every package in a state that it is not in
pub keeps-others : (is : PackageState → Bool) (id last next : ℕ) (ps : List Package) (p : Package) → packages_rise last next ps ≡ true
    → find id ps ≡ some p → is p.state ≡ false → keeps_all is (λ q. not (eqb id q.id)) ps ≡ true
unfolding keeps_all find
keeps-others is id last next [] p h e n = refl
keeps-others is id last next (q ∷ ps) p h e n =
    let r = rises-says last next q ps h in
    let ih : find id ps ≡ some p → keeps_all is (λ q. not (eqb id q.id)) ps ≡ true = λ y. keeps-others is id q.id next ps p r.rest y n in
    bool_cases (eqb id q.id)
    (λ b. let same : q ≡ p = cc (rw b at e) in
    let out : is q.state ≡ false = ap (λ (y : Package). is y.state) same ∙ n in
    and_both (not (is q.state) || not (eqb id q.id)) _ (rw out refl)
    (past q.id ps (omega (arith, eqb-true id q.id b)) r.rest))
    λ b. and_both (not (is q.state) || not (eqb id q.id)) _ (or-second (not (is q.state)) _ (rw b refl)) (ih (rw b at e))
  where
    past : (low : ℕ) (ps : List Package) → id ≤ low → packages_rise low next ps ≡ true → keeps_all is (λ q. not (eqb id q.id)) ps ≡ true
    past low [] l h = refl
    past low (q ∷ ps) l h =
        let r = rises-says low next q ps h in
        let other : eqb id q.id ≡ false = ne_eqb id q.id (λ z. omega (arith, r.over)) in
        and_both (not (is q.state) || not (eqb id q.id)) _ (or-second (not (is q.state)) _ (rw other refl))
        (past q.id ps (omega (arith, r.over)) r.rest)

-- A number of the package that is processing, as its id and its size: when one is started, one changes, or some are kept.
-- Assumes nothing.
use mathlib.Core.Path.{◌≡◌, refl, ap}
use mathlib.Core.Bool.{Bool, true, false, not, cond, ◌||◌}
use mathlib.Core.List.{List, [], ◌∷◌, ◌++◌}
use mathlib.Core.Option.{some}
use Prim.Native.Nat.{ℕ, ◌+◌}
use native.Mathlib.Omega.{arith}
use lib.Dec.{eqb}
use Rattle.base.proofs.Tests.{and_left, and_right, bool_cases, none-some}
use Rattle.model.specs.State.{Package}
use Rattle.model.specs.Areas.{find, remaining, changed, is_being_processed, count_in}
use Rattle.model.proofs.soundness.Counts.{keeps_all, kept-where}

module _ (of : Package → ℕ) where
  -- the number of the package that is processing, and 0 where none is
  unfoldable pub of_processing : List Package → ℕ
  of_processing [] = 0
  of_processing (p ∷ ps) = cond (is_being_processed p.state) (of p) (of_processing ps)

  pub of-started : (ps : List Package) (p : Package) → is_being_processed p.state ≡ false
      → of_processing (ps ++ p ∷ []) ≡ of_processing ps
  unfolding of_processing
  of-started [] p n = rw n
  of-started (q ∷ ps) p n = ap (cond (is_being_processed q.state) (of q)) (of-started ps p n)

  pub of-kept : (keeps : Package → Bool) (ps : List Package) → keeps_all is_being_processed keeps ps ≡ true
      → of_processing (remaining keeps ps) ≡ of_processing ps
  unfolding keeps_all of_processing remaining
  of-kept keeps [] h = refl
  of-kept keeps (p ∷ ps) h =
      let ih = of-kept keeps ps (and_right (not (is_being_processed p.state) || keeps p) _ h) in
      bool_cases (keeps p) (λ b. rw b (ap (cond (is_being_processed p.state) (of p)) ih))
      λ b. rw (b, kept-where (is_being_processed p.state) (keeps p) (and_left _ _ h) b) ih

  module _ (id : ℕ) (change : Package → Package) (same : (q : Package) → of (change q) ≡ of q) where
    pub of-changed : (ps : List Package) (p : Package) → find id ps ≡ some p
        → is_being_processed (change p).state ≡ is_being_processed p.state
        → of_processing (changed id change ps) ≡ of_processing ps
    unfolding find changed of_processing
    of-changed [] p e h = refl
    of-changed (q ∷ ps) p e h =
        let ih : find id ps ≡ some p → of_processing (changed id change ps) ≡ of_processing ps = λ y. of-changed ps p y h in
        bool_cases (eqb id q.id)
        (λ b. let here : q ≡ p = cc (rw b at e) in rw (b, here) (rw (h, same p)))
        λ b. rw b (ap (cond (is_being_processed q.state) (of q)) (ih (rw b at e)))

    -- a package comes into processing, where none was
    pub of-begun : (ps : List Package) (p : Package) → find id ps ≡ some p → count_in is_being_processed ps ≡ 0
        → is_being_processed (change p).state ≡ true
        → of_processing (changed id change ps) ≡ of p
    unfolding find changed of_processing count_in
    of-begun [] p e n h = none-some e
    of-begun (q ∷ ps) p e n h =
        let ih : find id ps ≡ some p → count_in is_being_processed ps ≡ 0 → of_processing (changed id change ps) ≡ of p =
        λ y z. of-begun ps p y z h in
        bool_cases (eqb id q.id)
        (λ b. let here : q ≡ p = cc (rw b at e) in rw (b, here) (rw (h, same p)))
        λ b. bool_cases (is_being_processed q.state)
        (λ y. absurd (let z : 1 + count_in is_being_processed ps ≡ 0 = rw y at n in omega arith))
        λ y. let z : 0 + count_in is_being_processed ps ≡ 0 = rw y at n in rw (b, y) (ih (rw b at e) (omega arith))

-- The id of the package that is processing: when one is started, one changes, or some are kept. Assumes nothing.
use mathlib.Core.Path.{◌≡◌, refl, sym, ap, ◌∙◌}
use mathlib.Core.Bool.{Bool, true, false, cond}
use mathlib.Core.List.{List, [], ◌∷◌, ◌++◌}
use mathlib.Core.Option.{some}
use Prim.Native.Nat.{ℕ, ◌≤◌}
use lib.Dec.{eqb}
use borrow.Author.Tests.{eqb-true}
use Rattle.base.proofs.Tests.{bool_cases, clash}
use Rattle.model.specs.State.{Package}
use Rattle.model.specs.Areas.{find, remaining, changed, is_being_processed, count_in, processing_id}
use Rattle.model.specs.Sound.{packages_rise}
use Rattle.model.proofs.soundness.Packages.{found-id}
use Rattle.model.proofs.soundness.Counts.{keeps_all}
use Rattle.model.proofs.soundness.ProcessingPackage.{processing-found}
use Rattle.model.proofs.soundness.OfProcessing.{of_processing, of-started, of-kept, of-changed, of-begun}

-- the id is one of these numbers
abbrev id_of : Package → ℕ
id_of p = p.id

id-is : (ps : List Package) → processing_id ps ≡ of_processing id_of ps
unfolding processing_id of_processing
id-is [] = refl
id-is (p ∷ ps) = ap (cond (is_being_processed p.state) p.id) (id-is ps)

pub id-started : (ps : List Package) (p : Package) → is_being_processed p.state ≡ false → processing_id (ps ++ p ∷ []) ≡ processing_id ps
id-started ps p n = id-is (ps ++ p ∷ []) ∙ of-started id_of ps p n ∙ sym (id-is ps)

pub id-kept : (keeps : Package → Bool) (ps : List Package) → keeps_all is_being_processed keeps ps ≡ true
    → processing_id (remaining keeps ps) ≡ processing_id ps
id-kept keeps ps h = id-is (remaining keeps ps) ∙ of-kept id_of keeps ps h ∙ sym (id-is ps)

module _ (id : ℕ) (change : Package → Package) (same : (q : Package) → (change q).id ≡ q.id) where
  pub id-changed : (ps : List Package) (p : Package) → find id ps ≡ some p
      → is_being_processed (change p).state ≡ is_being_processed p.state
      → processing_id (changed id change ps) ≡ processing_id ps
  id-changed ps p e h = id-is (changed id change ps) ∙ of-changed id_of id change same ps p e h ∙ sym (id-is ps)

  pub id-begun : (ps : List Package) (p : Package) → find id ps ≡ some p → count_in is_being_processed ps ≡ 0
      → is_being_processed (change p).state ≡ true
      → processing_id (changed id change ps) ≡ id
  id-begun ps p e n h = id-is (changed id change ps) ∙ of-begun id_of id change same ps p e n h ∙ found-id id ps p e

-- a package that is not processing has another id than the one that is
pub id_other : (id last next : ℕ) (ps : List Package) (p : Package) → packages_rise last next ps ≡ true → 1 ≤ count_in is_being_processed ps
    → find id ps ≡ some p
    → is_being_processed p.state ≡ false → eqb id (processing_id ps) ≡ false
id_other id last next ps p rise n e h =
    let w = processing-found last next ps rise n in
    bool_cases (eqb id (processing_id ps))
    (λ b. let same : p ≡ w.found = cc (e, w.here, eqb-true id (processing_id ps) b) in
    clash w.being (ap (λ (q : Package). is_being_processed q.state) (sym same) ∙ h))
    λ b. b

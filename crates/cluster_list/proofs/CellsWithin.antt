-- A part number and a need that were read are within the limits. Assumes nothing.
use mathlib.Core.Path.{◌≡◌, refl, sym, ap, subst, ◌∙◌}
use mathlib.Core.Bool.{true}
use mathlib.Core.List.{List, [], ◌∷◌}
use Prim.Native.Nat.{ℕ}
use lib.Dec.{leb, ltb}
use borrow.Author.Tests.{ltb-false, le-leb}
use Rattle.base.proofs.Tests.{and_left, and_both, cond_cases}
use Rattle.std.specs.Prelude.{Option, Some, None}
use Rattle.text.specs.declared.cursor.Cursor.{Cursor}
use Rattle.text.specs.Number.{whole_number}
use Rattle.text.specs.Version.{whole_version}
use Rattle.text.proofs.ThenLaws.{then-cases}
use Rattle.text.proofs.Meaning.{whole-number-most, whole-version-limits}
use Rattle.rows.specs.Field.{is_empty}
use Rattle.clusters.specs.declared.cluster.Need.{Need}
use Rattle.clusters.specs.Cluster.{need, part_within, need_within, needs_within}
use Rattle.cluster_list.specs.Cells.{part_field, need_of, needs_filled}

-- ---- a part number

abbrev PartWithin : Option (ℕ × Cursor) → Type 0
PartWithin (Some (part, next)) = part_within part ≡ true
PartWithin None = Unit {0}

part-within : (w : List ℕ) → PartWithin (part_field w)
unfolding part_field part_within
part-within w =
    then-cases PartWithin None (whole_number 4294967295 w) _ tt λ part next e.
    cond_cases PartWithin (ltb part 1) _ _ (λ b. tt)
    λ b. and_both (leb 1 part) _ (le-leb 1 part (ltb-false part 1 b)) (le-leb part 4294967295 (whole-number-most 4294967295 w part next _ refl e))

pub part-read-within : (w : List ℕ) (part : ℕ) (next : Cursor) → part_field w ≡ Some (part, next) → part_within part ≡ true
part-read-within w part next e = subst PartWithin e (part-within w)

-- ---- a need

abbrev NeedReadWithin : Option (Option Need × Cursor) → Type 0
NeedReadWithin (Some (need, next)) = needs_within (needs_filled need) ≡ true
NeedReadWithin None = Unit {0}

need-within : (needs least : List ℕ) → NeedReadWithin (need_of needs least)
unfolding need_of need_within needs_within
need-within needs least =
    cond_cases NeedReadWithin (is_empty needs) _ _ (λ b. cond_cases NeedReadWithin (is_empty least) _ _ (λ c. refl) λ c. tt)
    λ b. then-cases NeedReadWithin None (part_field needs) _ tt λ part behind e.
    then-cases NeedReadWithin None (whole_version least) _ tt λ version next f.
    and_both (need_within (need part version)) true
    (and_both (part_within part) _ (part-read-within needs part behind e) (whole-version-limits least version next _ refl f)) refl

pub needs-read-within : (needs least : List ℕ) (n : Option Need) (next : Cursor) → need_of needs least ≡ Some (n, next)
    → needs_within (needs_filled n) ≡ true
needs-read-within needs least n next e = subst NeedReadWithin e (need-within needs least)

pub need-read-within : (needs least : List ℕ) (read : Option Need) (next : Cursor) → need_of needs least ≡ Some (read, next)
    → (n : Need) → read ≡ Some n → need_within n ≡ true
unfolding needs_within
need-read-within needs least read next e n f =
    let h : needs_within (n ∷ []) ≡ true = ap (λ (r : Option Need). needs_within (needs_filled r)) (sym f) ∙ needs-read-within needs least read next e in
    and_left (need_within n) true h

-- What a number that was read is at most, and where it ends; the same of a version. Assumes nothing.
use Prim.Native.Nat.{ℕ, ◌+◌, ◌*◌, ◌-◌, ◌≤◌, ◌<◌}
use mathlib.Core.Path.{◌≡◌, refl}
use mathlib.Core.Bool.{true}
use mathlib.Core.List.{List, [], ◌∷◌}
use native.Mathlib.Omega.{arith}
use lib.ListN.{length, get_or, drop, length-drop}
use lib.Dec.{leb, ltb, eqb}
use borrow.Author.Tests.{ltb-false, le-leb, leb-true}
use Rattle.base.proofs.Tests.{cond_cases, and_both, and_left, and_right}
use Rattle.std.specs.Prelude.{Option, Some, None}
use Rattle.base.specs.Quoted.{dot}
use Rattle.text.specs.declared.cursor.Cursor.{Cursor}
use Rattle.text.specs.declared.version.Version.{Version}
use Rattle.text.specs.Number.{digit_of, number_goes_on, number_begins, number_at}
use Rattle.text.specs.Version.{version_part_most, version_last_most, version_within, dotted_at, version_at}
use Rattle.text.proofs.ThenLaws.{then-cases}

-- at most `most`, and ending from `p` to `e`
abbrev pub Within : ℕ → ℕ → ℕ → Option (ℕ × Cursor) → Type 0
Within most p e (Some (n, next)) = (n ≤ most) × (p ≤ next.at) × (next.at ≤ e)
Within most p e None = Unit {0}

within_more : (most p e : ℕ) (x : Option (ℕ × Cursor)) → Within most (p + 1) e x → Within most p e x
within_more most p e (Some (n, next)) w = (w.0, omega (arith, w.1), w.2)
within_more most p e None w = tt

pub goes-on-within : (most n p e : ℕ) (l : List ℕ) → n ≤ most → p + length l ≤ e → Within most p e (number_goes_on most n p l)
unfolding number_goes_on
goes-on-within most n p e [] h o = (h, omega arith, omega arith)
goes-on-within most n p e (b ∷ l) h o =
    cond_cases (Within most p e) (leb 10 (digit_of b)) _ _
    (λ _. (h, omega arith, omega arith))
    (λ _. cond_cases (Within most p e) (eqb n 0) _ _
    (λ _. tt)
    (λ _. cond_cases (Within most p e) (ltb most (n * 10 + digit_of b)) _ _
    (λ _. tt)
    (λ t. within_more most p e (number_goes_on most (n * 10 + digit_of b) (p + 1) l)
    (goes-on-within most (n * 10 + digit_of b) (p + 1) e l (ltb-false _ _ t) (omega arith)))))

pub begins-within : (most p e : ℕ) (l : List ℕ) → p + length l ≤ e → Within most (p + 1) e (number_begins most p l)
unfolding number_begins
begins-within most p e [] o = tt
begins-within most p e (b ∷ l) o =
    cond_cases (Within most (p + 1) e) (leb 10 (digit_of b)) _ _
    (λ _. tt)
    (λ _. cond_cases (Within most (p + 1) e) (ltb most (digit_of b)) _ _
    (λ _. tt)
    (λ t. goes-on-within most (digit_of b) (p + 1) e l (ltb-false _ _ t) (omega arith)))

-- ---- a number at a position, and one behind a dot

within_text : (most at e : ℕ) (x : Option (ℕ × Cursor)) → Within most (at + 1) (at + (e - at)) x → Within most (at + 1) e x
within_text most at e (Some (n, next)) w = (w.0, w.1, omega (arith, w.1, w.2))
within_text most at e None w = tt

pub number-within : (s : List ℕ) (at most : ℕ) → Within most (at + 1) (length s) (number_at s at most)
number-within s at most =
    within_text most at (length s) (number_at s at most)
    (begins-within most at (at + (length s - at)) (drop at s) (simp length-drop (omega arith)))

pub dotted-within : (s : List ℕ) (at most : ℕ) → Within most (at + 1) (length s) (dotted_at s at most)
unfolding dotted_at
dotted-within s at most =
    cond_cases (Within most (at + 1) (length s)) (eqb (get_or s at 0) dot) _ _
    (λ _. within_more most (at + 1) (length s) (number_at s (at + 1) most) (number-within s (at + 1) most))
    (λ _. tt)

module _ (s : List ℕ) (at most : ℕ) (x : Option (ℕ × Cursor)) (n : ℕ) (next : Cursor) (e : x ≡ number_at s at most) (v : x ≡ Some (n, next)) where
  found_number : Within most (at + 1) (length s) (Some (n, next))
  found_number = rw (← e, v) at (number-within s at most)

  pub number-most : n ≤ most
  number-most = found_number.0

  pub number-after : at < next.at
  number-after = omega (arith, found_number.1)

  pub number-inside : next.at ≤ length s
  number-inside = found_number.2

module _ (s : List ℕ) (at most : ℕ) (x : Option (ℕ × Cursor)) (n : ℕ) (next : Cursor) (e : x ≡ dotted_at s at most) (v : x ≡ Some (n, next)) where
  found-dotted : Within most (at + 1) (length s) (Some (n, next))
  found-dotted = rw (← e, v) at (dotted-within s at most)

  pub dotted-most : n ≤ most
  dotted-most = found-dotted.0

  pub dotted-after : at < next.at
  dotted-after = omega (arith, found-dotted.1)

  pub dotted-inside : next.at ≤ length s
  dotted-inside = found-dotted.2

-- ---- a version at a position

-- the limits of a version's parts, as a test and as facts
module _ (v : Version) where
  pub parts_within : v.first ≤ version_part_most → v.second ≤ version_part_most → v.third ≤ version_part_most → v.fourth ≤ version_last_most → version_within v ≡ true
  unfolding version_within
  parts_within a b c d =
      and_both _ _ (le-leb _ _ a) (and_both _ _ (le-leb _ _ b) (and_both _ _ (le-leb _ _ c) (le-leb _ _ d)))

  module _ (w : version_within v ≡ true) where
    pub first-within : v.first ≤ version_part_most
    unfolding version_within
    first-within = leb-true _ _ (and_left _ _ w)

    pub second-within : v.second ≤ version_part_most
    unfolding version_within
    second-within = leb-true _ _ (and_left _ _ (and_right (leb v.first version_part_most) _ w))

    pub third-within : v.third ≤ version_part_most
    unfolding version_within
    third-within = leb-true _ _ (and_left _ _ (and_right (leb v.second version_part_most) _ (and_right (leb v.first version_part_most) _ w)))

    pub fourth-within : v.fourth ≤ version_last_most
    unfolding version_within
    fourth-within =
        leb-true _ _
        (and_right (leb v.third version_part_most) _ (and_right (leb v.second version_part_most) _ (and_right (leb v.first version_part_most) _ w)))

abbrev pub WithinVersion : ℕ → ℕ → Option (Version × Cursor) → Type 0
WithinVersion p e (Some (v, next)) = (version_within v ≡ true) × (p ≤ next.at) × (next.at ≤ e)
WithinVersion p e None = Unit {0}

pub version-within : (s : List ℕ) (at : ℕ) → WithinVersion (at + 1) (length s) (version_at s at)
unfolding version_at
version-within s at =
    then-cases (WithinVersion (at + 1) (length s)) None (number_at s at version_part_most) _ tt λ a p ea.
    then-cases (WithinVersion (at + 1) (length s)) None (dotted_at s p.at version_part_most) _ tt λ b q eb.
    then-cases (WithinVersion (at + 1) (length s)) None (dotted_at s q.at version_part_most) _ tt λ c t ec.
    then-cases (WithinVersion (at + 1) (length s)) None (dotted_at s t.at version_last_most) _ tt λ d next ed. (
      parts_within
          (record { first = a; second = b; third = c; fourth = d })
          (number-most s at version_part_most _ a p refl ea)
          (dotted-most s p.at version_part_most _ b q refl eb)
          (dotted-most s q.at version_part_most _ c t refl ec)
          (dotted-most s t.at version_last_most _ d next refl ed),
      omega (
        arith,
        number-after s at version_part_most _ a p refl ea,
        dotted-after s p.at version_part_most _ b q refl eb,
        dotted-after s q.at version_part_most _ c t refl ec,
        dotted-after s t.at version_last_most _ d next refl ed,
      ),
      dotted-inside s t.at version_last_most _ d next refl ed,
    )

module _ (s : List ℕ) (at : ℕ) (x : Option (Version × Cursor)) (v : Version) (next : Cursor) (e : x ≡ version_at s at) (f : x ≡ Some (v, next)) where
  found-version : WithinVersion (at + 1) (length s) (Some (v, next))
  found-version = rw (← e, f) at (version-within s at)

  pub version-limits : version_within v ≡ true
  version-limits = found-version.0

  pub version-after : at < next.at
  version-after = omega (arith, found-version.1)

  pub version-inside : next.at ≤ length s
  version-inside = found-version.2

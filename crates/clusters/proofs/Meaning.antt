-- What a need means by A.5: the version has the first part of the least, and the least is not above it. So a version meets needs of one
-- main version alone. Where not all needs of a table are met, some need of some cluster isn't. Assumes nothing.
use mathlib.Core.Path.{◌≡◌, refl, ap, sym, subst, ◌∙◌}
use mathlib.Core.Bool.{Bool, true, false, not, ◌&&◌, and-false, true≢false}
use mathlib.Core.List.{List, [], ◌∷◌, Memᴰ}
use mathlib.Core.Logic.{◌↔◌}
use lib.Dec.{eqb}
use borrow.Author.Tests.{eqb-true, eq-eqb, not-true}
use Rattle.base.proofs.Tests.{and_left, and_right, and_both, bool_cases}
use Rattle.text.specs.declared.version.Version.{Version}
use Rattle.clusters.specs.declared.cluster.Need.{Need}
use Rattle.clusters.specs.Version.{above, at_or_above, fulfils}
use Rattle.clusters.specs.Cluster.{Cluster}
use Rattle.clusters.specs.Table.{Table, meets, meets_all, needs_met_of, needs_met}

pub fulfils-exactly-when : (v least : Version)
    → (fulfils v least ≡ true) ↔ ((v.first ≡ least.first) × (above least v ≡ false))
unfolding at_or_above fulfils
fulfils-exactly-when v least = (
  λ e. (eqb-true _ _ (and_left _ _ e), not-true _ (and_right (eqb v.first least.first) _ e)),
  λ both. and_both _ _ (eq-eqb _ _ both.0) (ap not both.1),
)

pub one-main-version : (v least other : Version) → fulfils v least ≡ true → fulfils v other ≡ true → least.first ≡ other.first
one-main-version v least other e f = sym ((fulfils-exactly-when v least).0 e).0 ∙ ((fulfils-exactly-when v other).0 f).0

-- ---- some need of a table

-- "some need of some cluster isn't met in" the table
pub record UnmetNeed (t : Table) : Type 0 where
  pub cluster : Cluster
  pub need : Need
  pub present : Memᴰ cluster t
  pub needed : Memᴰ need cluster.needs
  pub unmet : meets t need ≡ false

-- a test of all elements of a list fails exactly where the test of one of them does
module _ {A : Type 0} (test : A → Bool) (all : List A → Bool) (of_none : all [] ≡ true)
    (of-each : (x : A) (xs : List A) → all (x ∷ xs) ≡ test x && all xs) where
  one-fails : (xs : List A) → all xs ≡ false → (x : A) × Memᴰ x xs × (test x ≡ false)
  one-fails [] e = absurd (true≢false (sym of_none ∙ e))
  one-fails (x ∷ xs) e =
      bool_cases (test x)
      (λ t. let later = one-fails xs (sym (ap (λ (b : Bool). b && all xs) t) ∙ sym (of-each x xs) ∙ e) in
      (later.0, Memᴰ.tail later.1, later.2))
      λ f. (x, Memᴰ.head refl, f)

  all-fails : (x : A) (xs : List A) → Memᴰ x xs → test x ≡ false → all xs ≡ false
  all-fails x [] m f = elim m [ ]
  all-fails x (y ∷ xs) (Memᴰ.head e) f = of-each y xs ∙ ap (λ (b : Bool). b && all xs) (subst (λ (z : A). test z ≡ false) e f)
  all-fails x (y ∷ xs) (Memᴰ.tail m) f = of-each y xs ∙ ap (λ (b : Bool). test y && b) (all-fails x xs m f) ∙ and-false (test y)

pub unmet-exactly-when : (t : Table) → (needs_met t ≡ false) ↔ UnmetNeed t
unfolding meets_all needs_met_of needs_met
unmet-exactly-when t = (
  λ e.
      let c = one-fails (λ (d : Cluster). meets_all t d.needs) (needs_met_of t) refl (λ d cs. refl) t e in
      let n = one-fails (meets t) (meets_all t) refl (λ m ns. refl) c.0.needs c.2 in
      record { cluster = c.0; need = n.0; present = c.1; needed = n.1; unmet = n.2 },
  λ u.
      all-fails (λ (d : Cluster). meets_all t d.needs) (needs_met_of t) refl (λ d cs. refl) u.cluster t u.present
      (all-fails (meets t) (meets_all t) refl (λ m ns. refl) u.need u.cluster.needs u.needed u.unmet),
)

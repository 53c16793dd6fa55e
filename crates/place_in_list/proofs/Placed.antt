-- What the answer of a search says of the list, at the place that is found and where nothing is: what is found is what a definition finds
-- that goes by the same test. Assumes nothing.
use Prim.Native.Nat.{ℕ, suc, ◌+◌, ◌<◌}
use mathlib.Core.Path.{◌≡◌, refl, sym, ap, ◌∙◌}
use mathlib.Core.Bool.{Bool, true, false, cond}
use mathlib.Core.List.{List, [], ◌∷◌, map}
use mathlib.Core.Option as math
use mathlib.Core.Option.{none, some}
use native.Mathlib.Omega.{arith}
use lib.ListN.{length, get_or, get_elem?}
use Rattle.base.proofs.Tests.{bool_cases}
use denote.Param.Members.{Mut}
use Rattle.std.specs.Prelude.{Option, None, Some, MatchOption}
use Rattle.std.specs.Fn.{Called}
use Rattle.std.specs.Iterator.{YieldsThen}
use Rattle.std.specs.List.{position_from, FoldsTo}
use Rattle.std.proofs.lemmas.Iterator.{YieldsList}
use Rattle.std.proofs.lemmas.Iterator.Search.{position_from_yields_List}
use Rattle.std.proofs.lemmas.Iterator.Adapters.{position_from-zero}
use Rattle.place_in_list.specs.Place.{Found, found_in}

-- a place in a column is the place among the elements that the column is of
pub place-in-map : {A B : Type 0} (f : A → B) (test : B → Bool) (i : ℕ) (l : List A) → position_from test i (map f l) ≡ position_from (λ x. test (f x)) i l
place-in-map f test i [] = refl
place-in-map f test i (x ∷ l) = ap (cond (test (f x)) (Some i)) (place-in-map f test (i + 1) l)

-- the place that `position` of an iterator gives is the place in the list of what the iterator yields
pub position-place : {S A B F : Type 0} {steps : S → Option A → S → Type 0} {v : A → B} {g : Mut F (A × Unit {0}) Bool} {s : S} {all : List B}
    (test : B → Bool) (u : S) (f : F) (r : Found)
    → (xs : List A) × (o : Option A) × (j : F) × YieldsThen steps s xs o u × FoldsTo (λ p x q. Called g p (x, tt) false q) f xs j
    × MatchOption o (r ≡ None) (λ x. (r ≡ Some (length xs)) × ((h : F) × Called g j (x, tt) true h))
    → YieldsList steps v s all → ((x : A) (b : Bool) (q : F) → Called g f (x, tt) b q → (q ≡ f) × (b ≡ test (v x))) → r ≡ position_from test 0 all
position-place {all = all} test u f r ran yields calls = position_from_yields_List test u f r ran yields calls ∙ position_from-zero test all

module _ {A : Type 0} (test : A → Bool) where
  -- ---- the place that is found

  -- what holds at a first element with the test, and carries over a first one without it, holds at the place that is found
  module _ (P : List A → ℕ → Type 0) (first : (x : A) (l : List A) → test x ≡ true → P (x ∷ l) 0)
      (further : (x : A) (l : List A) (i : ℕ) → test x ≡ false → P l i → P (x ∷ l) (suc i)) where
    record HoldsFrom (base : ℕ) (l : List A) (i : ℕ) : Type 0 where
      at : ℕ
      place : i ≡ base + at
      holds : P l at

    holds-from : (base : ℕ) (l : List A) (i : ℕ) → position_from test base l ≡ Some i → HoldsFrom base l i
    holds-from base [] i e = let z : ◌≡◌ {A = ℕ} 0 1 = cc in absurd (omega arith)
    holds-from base (x ∷ l) i e = go (test x) refl e (holds-from (base + 1) l i)
      where
        go : (b : Bool) → test x ≡ b → cond b (Some base) (position_from test (base + 1) l) ≡ Some i → (position_from test (base + 1) l ≡ Some i → HoldsFrom (base + 1) l i) → HoldsFrom base (x ∷ l) i
        go true z e ih = let s : base ≡ i = cc in record { at = 0; place = omega arith; holds = first x l z }
        go false z e ih = let h = ih e in record { at = suc h.at; place = omega (arith, h.place); holds = further x l h.at z h.holds }

    pub holds-at-place : (l : List A) (i : ℕ) → position_from test 0 l ≡ Some i → P l i
    holds-at-place l i e =
        let h = holds-from 0 l i e in
        let q : h.at ≡ i = omega (arith, h.place) in
        rw q at h.holds

  -- the element at the place, which is one of the list's
  pub record PlacedIn (l : List A) (i : ℕ) : Type 0 where
    pub below : i < length l
    pub listed : (d : A) → get_elem? l i ≡ some (get_or l i d)

  pub placed-in : (l : List A) (i : ℕ) → position_from test 0 l ≡ Some i → PlacedIn l i
  placed-in =
      holds-at-place PlacedIn (λ x l z. record { below = omega arith; listed = λ d. refl })
      λ x l i z p. record { below = omega (arith, p.below); listed = p.listed }

  -- what holds of no elements and carries over one without the test holds where nothing is found
  pub holds-where-none : (P : List A → Type 0) → P [] → ((x : A) (l : List A) → test x ≡ false → P l → P (x ∷ l))
      → (base : ℕ) (l : List A) → position_from test base l ≡ None → P l
  holds-where-none P empty further base [] e = empty
  holds-where-none P empty further base (x ∷ l) e =
      let ih : position_from test (base + 1) l ≡ None → P l = holds-where-none P empty further (base + 1) l in
      bool_cases (test x) (λ z. let c : ◌≡◌ {A = ℕ} 0 1 = cc (rw z at e) in absurd (omega arith)) λ z. further x l z (ih (rw z at e))

  -- ---- what is found

  -- a definition of what is found: the first element that the test holds of
  module _ (find : List A → math.Option A) (empty : find [] ≡ none) (first : (x : A) (l : List A) → find (x ∷ l) ≡ cond (test x) (some x) (find l)) where
    found-there : (l : List A) (i : ℕ) → position_from test 0 l ≡ Some i → get_elem? l i ≡ find l
    found-there =
        holds-at-place (λ l i. get_elem? l i ≡ find l) (λ x l z. sym (first x l ∙ rw z)) λ x l i z p. p ∙ sym (first x l ∙ rw z)

    pub none_found : (base : ℕ) (l : List A) → position_from test base l ≡ None → find l ≡ none
    none_found = holds-where-none (λ l. find l ≡ none) empty λ x l z e. first x l ∙ rw z e

    -- the search finds what the definition finds: r is what the search gave
    pub found-is : (l : List A) (r : Found) → r ≡ position_from test 0 l → found_in l r ≡ find l
    found-is l (Some i) e = found-there l i (sym e)
    found-is l None e = sym (none_found 0 l (sym e))

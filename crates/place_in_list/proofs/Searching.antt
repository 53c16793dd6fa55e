-- The law of a linear search, for any list and test. The invariant of its loop is `Searching`: the place in the whole list is the place
-- in what stands from i on. One law for each way out of the loop, and one for the next turn. Assumes nothing.
use Prim.Native.Nat.{ℕ, ◌+◌}
use mathlib.Core.Path.{◌≡◌, refl, sym, ap, ◌∙◌}
use mathlib.Core.Bool.{Bool, true, false}
use mathlib.Core.List.{List, [], ◌∷◌}
use lib.ListN.{drop}
use Rattle.std.specs.Prelude.{Some, None}
use Rattle.std.specs.List.{position_from}

-- nothing is found before i
abbrev pub Searching : {A : Type 0} → (A → Bool) → List A → ℕ → Type 0
Searching test l i = position_from test 0 l ≡ position_from test i (drop i l)

module _ {A : Type 0} (test : A → Bool) (l : List A) where
  pub search-begins : Searching test l 0
  search-begins = refl

  module _ (i : ℕ) (so_far : Searching test l i) where
    -- x is the element at i
    module _ (x : A) (rest : List A) (next : drop i l ≡ x ∷ rest) where
      pub search-stops : test x ≡ true → Some i ≡ position_from test 0 l
      search-stops holds = sym (so_far ∙ ap (position_from test i) next ∙ rw holds)

      pub search-goes-on : rest ≡ drop (i + 1) l → test x ≡ false → Searching test l (i + 1)
      search-goes-on further fails = so_far ∙ ap (position_from test i) next ∙ rw fails (ap (position_from test (i + 1)) further)

    pub search-ends : drop i l ≡ [] → None ≡ position_from test 0 l
    search-ends end = sym (so_far ∙ ap (position_from test i) end)

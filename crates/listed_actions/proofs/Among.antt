-- A number is among a column exactly where one of the column equals it. Assumes nothing.
use Prim.Native.Nat.{ℕ}
use mathlib.Core.Path.{◌≡◌, refl, sym, ◌∙◌}
use mathlib.Core.List.{List, [], ◌∷◌}
use lib.Dec.{eqb}
use borrow.Author.Tests.{eqb-true, eq-eqb, ne_eqb}
use Rattle.std.specs.List.{list_any}
use Rattle.base.proofs.Tests.{bool_cases, clash}
use Rattle.listed_actions.specs.Listed.{is_among}

eqb-sym : (m n : ℕ) → eqb m n ≡ eqb n m
eqb-sym m n =
    bool_cases (eqb m n) (λ z. z ∙ sym (eq-eqb n m (sym (eqb-true m n z)))) λ z. z ∙ sym (ne_eqb n m λ e. clash (eq-eqb m n (sym e)) z)

pub any-among : (number : ℕ) (l : List ℕ) → list_any (λ n. eqb n number) l ≡ is_among number l
unfolding is_among
any-among number [] = refl
any-among number (n ∷ l) = rw (eqb-sym n number, any-among number l)

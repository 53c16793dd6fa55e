-- What `line_from` gives at a position, for each test that the code makes there. Assumes nothing.
use Prim.Native.Nat.{ℕ, ◌+◌, ◌-◌, ◌≤◌, ◌<◌}
use mathlib.Core.Path.{◌≡◌, refl, ◌∙◌}
use mathlib.Core.Bool.{Bool, true, false, cond}
use mathlib.Core.List.{List}
use native.Mathlib.Omega.{arith}
use native.Mathlib.Numerals.{add-one}
use lib.ListN.{length, get_or, drop, drop_of_length-le}
use lib.Seq.{drop-cons}
use lib.Dec.{eqb}
use borrow.Author.Tests.{eq-eqb, ne_eqb}
use Rattle.std.specs.Prelude.{Option, Some, None}
use Rattle.std.specs.Bool.{then_some}
use Rattle.base.specs.Quoted.{comma, LF}
use Rattle.text.specs.Number.{cursor}
use Rattle.text.specs.declared.cursor.Cursor.{Cursor}
use Rattle.rows.specs.Line.{line_from}

some-cond : (b : Bool) (next : Cursor) → then_some b next ≡ cond b (Some next) None
some-cond true next = refl
some-cond false next = refl

module _ (s : List ℕ) (left p : ℕ) (x : Option Cursor) (q : x ≡ line_from left p (drop p s)) where
  pub line-over : length s ≤ p → None ≡ x
  unfolding line_from
  line-over h = rw (q, drop_of_length-le s h)

  module _ (h : p < length s) where
    pub line-ends : (r : Option Cursor) → r ≡ then_some (eqb left 0) (cursor (p + 1)) → get_or s p 0 ≡ LF → r ≡ x
    unfolding line_from
    line-ends r t e = t ∙ some-cond (eqb left 0) (cursor (p + 1)) ∙ rw (q, drop-cons s p 0 h, eq-eqb _ _ e)

    pub line-long : (r : Option Cursor) → r ≡ None → get_or s p 0 ≡ comma → left ≡ 0 → r ≡ x
    unfolding line_from
    line-long r t e z = t ∙ rw (q, drop-cons s p 0 h, e, eq-eqb _ _ z)

    pub line-comma : (next : ℕ) → get_or s p 0 ≡ comma → left ≡ next + 1 → x ≡ line_from next (p + 1) (drop (p + 1) s)
    unfolding line_from
    line-comma next e w =
        let one : left - 1 ≡ next = omega arith in
        q ∙ rw (drop-cons s p 0 h, e, ne_eqb left 0 (λ z. omega (arith, z, w)), add-one, one)

    pub line-byte : (next : ℕ) → (get_or s p 0 ≡ LF → ⊥) → (get_or s p 0 ≡ comma → ⊥) → next ≡ left → x ≡ line_from next (p + 1) (drop (p + 1) s)
    unfolding line_from
    line-byte next n m w = q ∙ rw (drop-cons s p 0 h, ne_eqb _ _ n, ne_eqb _ _ m, add-one, w)

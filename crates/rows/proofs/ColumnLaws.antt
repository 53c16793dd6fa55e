-- What `column_from` gives with k fields passed, for each test that the code makes there. Assumes nothing.
use Prim.Native.Nat.{ℕ, suc, ◌+◌, ◌-◌, ◌≤◌, ◌<◌}
use mathlib.Core.Path.{◌≡◌, ◌∙◌}
use mathlib.Core.Bool.{Bool, true, false}
use mathlib.Core.List.{List}
use native.Mathlib.Omega.{arith}
use Rattle.std.specs.Prelude.{Option, Some, None}
use Rattle.text.specs.Word.{same_bytes}
use Rattle.rows.specs.Field.{cell}
use Rattle.rows.specs.Columns.{column_from}

module _ (fields k : ℕ) (name l : List ℕ) (x : Option ℕ) (q : x ≡ column_from (fields - k) k name l) where
  pub column-over : fields ≤ k → None ≡ x
  unfolding column_from
  column-over h = let e : fields - k ≡ 0 = omega arith in rw (q, e)

  -- w is the field that the code looked at, and r whether it is the name
  module _ (w : List ℕ) (r : Bool) (h : k < fields) (here : w ≡ cell k l) (told : r ≡ same_bytes w name) where
    pub column-found : r ≡ true → Some k ≡ x
    unfolding column_from
    column-found t =
        let e : fields - k ≡ suc (fields - (k + 1)) = omega arith in
        rw (q, e, ← here, ← told, t)

    pub column-on : r ≡ false → x ≡ column_from (fields - (k + 1)) (k + 1) name l
    unfolding column_from
    column-on f =
        let e : fields - k ≡ suc (fields - (k + 1)) = omega arith in
        q ∙ rw (e, ← here, ← told, f)

-- A number as text: its decimal digits.
use Rattle.std.specs.Prelude.{ℕ, zero, suc, ◌+◌, ◌/◌, ◌%◌, List, [], ◌∷◌, ◌++◌, cond, ltb}

-- the digits of n in at most as many steps as the first argument says. What `let` binds is computed only where it is read
unfoldable pub digits_in : ℕ → ℕ → List ℕ
digits_in zero n = (48 + n) ∷ []
digits_in (suc steps) n =
    let longer = digits_in steps (n / 10) ++ ((48 + n % 10) ∷ []) in
    cond (ltb n 10) ((48 + n) ∷ []) longer

-- the decimal digits of n, without leading zeros: n steps are enough
unfoldable pub digits : ℕ → List ℕ
digits n = digits_in n n

-- How the code sees that a field is empty: by its length. Assumes nothing.
use Prim.Native.Nat.{ℕ, ◌≤◌, ◌<◌}
use mathlib.Core.Path.{◌≡◌, refl}
use mathlib.Core.Bool.{true, false, false≢true}
use mathlib.Core.List.{List, [], ◌∷◌}
use native.Mathlib.Omega.{arith}
use lib.ListN.{length}
use Rattle.rows.specs.Field.{is_empty}

pub no_byte : (l : List ℕ) → length l < 1 → is_empty l ≡ true
no_byte [] h = refl
no_byte (b ∷ l) h = absurd (omega arith)

pub some_byte : (l : List ℕ) → 1 ≤ length l → is_empty l ≡ false
some_byte [] h = absurd (omega arith)
some_byte (b ∷ l) h = refl

pub empty-length : (l : List ℕ) → is_empty l ≡ true → length l ≡ 0
empty-length [] h = refl
empty-length (b ∷ l) h = absurd (false≢true h)

-- To show something of a chain of `and_then_read` and `and_then_some`, show it of `ill`, and of what follows a value. Code that is a chain
-- of `?` or of `let .. else` proves by itself, with the definition unfolded. Assumes nothing.
use mathlib.Core.Path.{◌≡◌, refl}
use Rattle.std.specs.Prelude.{Option, Some, None}
use Rattle.text.specs.declared.cursor.Cursor.{Cursor}
use Rattle.text.specs.Then.{and_then_read, and_then_some}

pub then-cases : {A R : Type 0} (P : R → Type 0) (ill : R) (y : Option (A × Cursor)) (f : A → Cursor → R) → P ill
    → ((v : A) (next : Cursor) → y ≡ Some (v, next) → P (f v next)) → P (and_then_read ill y f)
then-cases P ill (Some (v, next)) f i g = g v next refl
then-cases P ill None f i g = i

pub then-cases-some : {A R : Type 0} (P : R → Type 0) (ill : R) (y : Option A) (f : A → R) → P ill
    → ((v : A) → y ≡ Some v → P (f v)) → P (and_then_some ill y f)
then-cases-some P ill (Some v) f i g = g v refl
then-cases-some P ill None f i g = i

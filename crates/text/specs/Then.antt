-- Readers in a row: each goes on where the one before ended, and the first that finds nothing ends them all.
use Rattle.std.specs.Prelude.{Option, Some, None}
use Rattle.text.specs.declared.cursor.Cursor.{Cursor}

-- goes on with the value that was read and the cursor behind it, or is `ill`
abbrev pub and_then_read : {A R : Type 0} → R → Option (A × Cursor) → (A → Cursor → R) → R
and_then_read ill (Some (x, next)) f = f x next
and_then_read ill None f = ill

-- the same with a value alone
abbrev pub and_then_some : {A R : Type 0} → R → Option A → (A → R) → R
and_then_some ill (Some x) f = f x
and_then_some ill None f = ill

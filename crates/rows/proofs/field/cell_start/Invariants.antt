-- `rows::field::cell_start` meets its contract. Invariant: `from` is within the text, and field number k of the line is field
-- number k - counter from `from` on. A cursor past the end reads as one at the end. Assumes nothing.
use Prim.Native.Nat.{◌-◌, ◌≤◌}
use mathlib.Core.Path.{◌≡◌}
use lib.ListN.{length, drop}
use Rattle.rows.specs.Field.{cell}
use Rattle.rows.proofs.field.cell_start.Given as goal

abbrev pub invariant-loop : goal.invariant-loop
invariant-loop l = (l.from ≤ length l.s) × (cell l.k (drop l.at l.s) ≡ cell (l.k - l.counter) (drop l.from l.s))

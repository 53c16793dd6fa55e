-- `text::write::number_length` meets its contract. The loop's invariant: the digits of `rest` and those counted are the digits of `n`,
-- with one counted twice, and the count stays small. The measure is `rest`. Assumes nothing.
use Prim.Native.Nat.{◌+◌, ◌≤◌}
use mathlib.Core.Path.{◌≡◌}
use lib.ListN.{length}
use Rattle.text.specs.Digits.{digits}
use Rattle.text.proofs.write.number_length.Given as goal

abbrev pub invariant-loop-rest : goal.invariant-loop-rest
invariant-loop-rest l = (length (digits l.n) + 1 ≡ length (digits l.rest) + l.count) × (l.count + l.rest ≤ l.n + 1)

abbrev pub decreases-loop-rest : goal.decreases-loop-rest
decreases-loop-rest l = l.rest

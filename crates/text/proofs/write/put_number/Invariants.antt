-- `text::write::put_number` meets its contract. The loop's invariant: to store the digits of `rest` from `at` on, which end at `i`, is
-- all that is left to do, and the buffer has its length. The measure is `rest`. Assumes nothing.
use Prim.Native.Nat.{◌+◌, ◌≤◌}
use mathlib.Core.Path.{◌≡◌}
use lib.ListN.{length}
use lib.Seq.{sets}
use Rattle.text.specs.Digits.{digits}
use Rattle.text.proofs.write.put_number.Given as goal

abbrev pub invariant-loop-rest : goal.invariant-loop-rest
invariant-loop-rest l =
    (l.i ≡ l.at + length (digits l.rest)) × (l.i ≤ length l.buf) × (length l.buf ≡ length l.initial.buf) × (sets l.buf l.at (digits l.rest) ≡ sets l.initial.buf l.at (digits l.n))

abbrev pub decreases-loop-rest : goal.decreases-loop-rest
decreases-loop-rest l = l.rest

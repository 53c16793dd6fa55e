-- `cases::show::with_fields` is safe. The invariant: no more fields are passed than bytes of the sentence. Assumes nothing.
use Prim.Native.Nat.{◌+◌, ◌≤◌}
use Rattle.cases.proofs.show.with_fields.Given as goal

abbrev pub invariant-loop-b : goal.invariant-loop-b
invariant-loop-b l = l.k ≤ l.b-index + 1

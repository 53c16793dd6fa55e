-- `text::number::number_goes_on` meets its contract. The loop's invariant: the value is at most the limit, and what is read of the
-- whole is what is read from `i` with the value so far. Assumes nothing.
use Prim.Native.Nat.{◌≤◌, max}
use mathlib.Core.Path.{◌≡◌}
use lib.ListN.{length, drop}
use Rattle.text.specs.Number.{number_goes_on}
use Rattle.text.proofs.number.number_goes_on.Given as goal

abbrev pub invariant-loop-i : goal.invariant-loop-i
invariant-loop-i l = record {
  in_limit : l.value ≤ l.most;
  inside : l.i ≤ max l.at (length l.s);
  same : number_goes_on l.most l.first l.at (drop l.at l.s) ≡ number_goes_on l.most l.value l.i (drop l.i l.s);
}

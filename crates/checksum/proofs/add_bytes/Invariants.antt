-- `checksum::add_bytes` meets its contract. The loop's invariant: the pair so far is within its limit, and continued over the
-- bytes left it is the pair that the whole part gives. The table that is lent for each byte passes its test, which is computed here, once.
-- Assumes nothing.
use mathlib.Core.Bool.{true}
use mathlib.Core.Path.{◌≡◌}
use lib.ListN.{drop}
use Rattle.checksum.specs.Sum.{continued, sums_within}
use Rattle.checksum.proofs.add_bytes.Given as goal

abbrev pub invariant-loop-b : goal.invariant-loop-b
invariant-loop-b l =
    (sums_within l.so_far ≡ true) × (continued l.initial.so_far l.part ≡ continued l.so_far (drop l.b-index l.part))

-- `checksum::remainder_255` meets its contract: the part of the table from `added` on has an entry at `sum`, the remainder of both.
-- Assumes nothing.
use native.Mathlib.Omega.{arith}
use Rattle.checksum.proofs.RemainderTable.{table-length, part-reaches, remainder-in-part}
use Rattle.checksum.proofs.remainder_255.Goals as goal

pub slice_bounds-part-count : goal.slice_bounds-part-count
slice_bounds-part-count c = omega (arith, table-length _ c.requires.0)

pub slice_bounds-part-start : goal.slice_bounds-part-start
slice_bounds-part-start c = omega (arith, table-length _ c.requires.0)

pub bounds-part-sum : goal.bounds-part-sum
bounds-part-sum c = part-reaches _ c.requires.0 _ _ (omega arith)

pub overflow_cast-result-2 : goal.overflow_cast-result-2
overflow_cast-result-2 c =
    omega (arith, remainder-in-part _ c.requires.0 c.args.sum c.args.added (omega arith))

pub returns : goal.returns
returns c = remainder-in-part _ c.requires.0 _ _ (omega arith)

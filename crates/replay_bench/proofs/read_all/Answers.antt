-- `replay_bench::read_all` is safe and ends. The invariant: the buffers keep their lengths. Assumes nothing.
use native.Mathlib.Omega.{arith}
use borrow.Author.Tests.{not-false}
use Rattle.replay_bench.proofs.read_all.Goals as goal

pub read_some-bench-requires : goal.read_some-bench-requires
read_some-bench-requires c = record { line_in_bounds = omega arith; goes_on_value = search not-false }

-- `replay_bench::read_all` is safe. The invariant: the buffers keep their lengths. Assumes nothing.
use mathlib.Core.Path.{◌≡◌}
use lib.ListN.{length}
use Rattle.replay_bench.proofs.read_all.Given as goal

abbrev pub invariant-loop : goal.invariant-loop
invariant-loop l = (length l.bytes ≡ length l.initial.bytes) × (length l.line ≡ length l.initial.line) × (length l.input ≡ length l.initial.input) × (length l.buffer ≡ length l.initial.buffer)

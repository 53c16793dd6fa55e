-- `replay_bench::lines::take_lines` meets its contract. The invariant: the buffers keep their lengths, and what all bytes make of the start is what
-- those that are left make of what is held now. The measure is the bytes left. Assumes nothing.
use Prim.Native.Nat.{◌-◌}
use mathlib.Core.Path.{◌≡◌}
use lib.ListN.{length, drop}
use Rattle.script.specs.Gathered.{line_so_far}
use Rattle.replay_bench.specs.Bench.{held, between}
use Rattle.replay_bench.specs.Input.{after_bytes}
use Rattle.replay_bench.proofs.lines.take_lines.Given as goal

abbrev pub invariant-loop-at : goal.invariant-loop-at
invariant-loop-at l = (length l.bytes ≡ length l.initial.bytes) × (length l.line ≡ length l.initial.line) × (length l.buffer ≡ length l.initial.buffer) × (after_bytes (length l.initial.line) l.input (between (held l.initial.kept l.initial.bytes) (line_so_far l.initial.gathering.gathered l.initial.line)) ≡ after_bytes (length l.initial.line) (drop l.at l.input) (between (held l.kept l.bytes) (line_so_far l.gathering.gathered l.line)))

abbrev pub decreases-loop-at : goal.decreases-loop-at
decreases-loop-at l = length l.input - l.at

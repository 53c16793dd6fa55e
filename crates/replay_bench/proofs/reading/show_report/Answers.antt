-- `replay_bench::reading::show_report` is safe: what was written is a part of the buffer. Assumes nothing.
use Prim.Native.Nat.{◌≤◌}
use native.Mathlib.Omega.{arith}
use lib.ListN.{length}
use Rattle.script_calls.proofs.LentLaws.{part-long}
use Rattle.replay_bench.proofs.reading.show_report.Goals as goal

pub slice_bounds-write_all-end : goal.slice_bounds-write_all-end
slice_bounds-write_all-end c = let h : c.min.result ≤ length c.args.buffer.now = omega arith in part-long _ _ h

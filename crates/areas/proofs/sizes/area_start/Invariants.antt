-- `areas::sizes::area_start` meets its contract. The loop's invariant: the sum so far is that of the first sizes, each of 32 bits.
-- Assumes nothing.
use mathlib.Core.Path.{◌≡◌}
use Prim.Native.Nat.{◌*◌, ◌≤◌}
use lib.ListN.{take}
use Rattle.model.specs.Areas.{declared}
use Rattle.state.specs.View.{view_packages}
use Rattle.areas.proofs.sizes.area_start.Given as goal

abbrev pub invariant-loop-p : goal.invariant-loop-p
invariant-loop-p l = (l.start ≤ 4294967295 * l.p-index) × (l.start ≡ declared (take l.p-index (view_packages l.fn.t)))

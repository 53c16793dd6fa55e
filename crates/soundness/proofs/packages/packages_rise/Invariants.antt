-- `soundness::packages::packages_rise` meets its contract. The loop's invariant: the packages rise and fit exactly where those from i
-- on rise above the last id and fit from the end of the areas before, which is within the store. Assumes nothing.
use mathlib.Core.Path.{◌≡◌}
use mathlib.Core.Bool.{◌&&◌}
use Prim.Native.Nat.{◌≤◌}
use lib.Dec.{leb}
use lib.ListN.{drop}
use Rattle.model.specs.Areas.{declared}
use Rattle.model.specs.Sound.{packages_rise}
use Rattle.state.specs.View.{view_packages}
use Rattle.soundness.proofs.OnePackage.{rise_and_fit}
use Rattle.soundness.proofs.packages.packages_rise.Given as goal

abbrev pub invariant-loop-p : goal.invariant-loop-p
invariant-loop-p l =
    (l.start ≤ l.room)
    × (packages_rise 0 l.fn.t.next (view_packages l.fn.t) && leb (declared (view_packages l.fn.t)) l.room ≡ rise_and_fit l.last l.fn.t.next l.start l.room (drop l.p-index (view_packages l.fn.t)))

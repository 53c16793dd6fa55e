-- `clusters::within::version_within` meets its contract: the tests of the definition but the last, as 32 bits hold no fourth part above the
-- largest. Assumes nothing.
use native.Mathlib.Omega.{arith}
use Prim.Native.Nat.{◌≤◌}
use mathlib.Core.Path.{◌≡◌}
use mathlib.Core.Bool.{◌&&◌, and-true}
use lib.Dec.{leb}
use borrow.Author.Tests.{le-leb}
use Rattle.text.specs.declared.version.Version.{Version}
use Rattle.text.specs.Version.{version_part_most, version_last_most, version_within}
use Rattle.clusters.proofs.within.version_within.Goals as goal

first_three : (v : Version) → v.fourth ≤ version_last_most
    → leb v.first version_part_most && (leb v.second version_part_most && leb v.third version_part_most) ≡ version_within v
unfolding version_within
first_three v h = rw (le-leb v.fourth version_last_most h, and-true)

pub returns : goal.returns
returns c = first_three _ (omega arith)

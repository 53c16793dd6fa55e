-- `areas::sizes::free_bytes` meets its contract: the area behind the last starts where all declared sizes end. Assumes nothing.
use borrow.Author.Rules.{rules}
use native.Mathlib.Omega.{arith}
use mathlib.Core.Path.{◌≡◌}
use lib.ListN.{length}
use Rattle.base.proofs.Counted.{unmapped}
use Rattle.model.specs.Sound.{packages_most}
use Rattle.areas.proofs.Along.{start-last}
use Rattle.areas.proofs.sizes.free_bytes.Goals.{Start}
use Rattle.areas.proofs.sizes.free_bytes.Goals as goal

long : (c : Start) → length c.args.t.packages ≡ packages_most
long c = search (rules, unmapped)

pub returns : goal.returns
returns c =
    omega (arith, c.saturating_sub.ensures, c.area_start.ensures, start-last c.args.t c.requires (long (goal.at.returns c).Start))

-- `state::transfers::with_package` meets its contract: the store at the place. Assumes nothing.
use borrow.Author.Rules.{rules}
use mathlib.Core.Path.{◌≡◌, ap}
use mathlib.Core.List.{List}
use native.Mathlib.Omega.{arith}
use lib.ListN.{length}
use Rattle.base.proofs.Counted.{unmapped}
use Rattle.clusters.proofs.Arrays.{set-put}
use Rattle.state.specs.declared.package.Package.{Package}
use Rattle.state.specs.declared.transfers.Transfers.{Transfers}
use Rattle.state.proofs.transfers.with_package.Goals.{Start}
use Rattle.state.proofs.transfers.with_package.Goals as goal

long : (c : Start) → length c.args.t.packages ≡ 16
long c = search (rules, unmapped)

pub returns : goal.returns
returns c =
    ap {B = Transfers} (λ (packages : List Package). record { packages = packages; count = c.args.t.count; next = c.args.t.next })
    (set-put c.args.t.packages c.args.i c.args.p (omega (arith, long (goal.at.returns c).Start)))

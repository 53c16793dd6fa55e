-- `state::transfers::with_new_package` meets its contract: the store of the new package behind the last. Assumes nothing.
use borrow.Author.Rules.{rules}
use mathlib.Core.Path.{◌≡◌, ap, ◌∙◌}
use mathlib.Core.List.{List}
use Prim.Native.Nat.{◌+◌}
use native.Mathlib.Omega.{arith}
use lib.ListN.{length, set}
use Rattle.base.proofs.Counted.{unmapped}
use Rattle.clusters.proofs.Arrays.{set-put}
use Rattle.state.specs.declared.package.Package.{Package}
use Rattle.state.specs.declared.transfers.Transfers.{Transfers}
use Rattle.state.proofs.transfers.with_new_package.Goals.{Start}
use Rattle.state.proofs.transfers.with_new_package.Goals as goal

long : (c : Start) → length c.args.t.packages ≡ 16
long c = search (rules, unmapped)

pub returns : goal.returns
returns c =
    let t = c.args.t in
    ap {B = Transfers} (λ (packages : List Package). record { packages = packages; count = t.count + 1; next = t.next + 1 })
    (ap (λ (p : Package). set t.packages t.count p) c.new_package.ensures
    ∙ set-put t.packages t.count _ (omega (arith, long (goal.at.returns c).Start, c.requires.0)))

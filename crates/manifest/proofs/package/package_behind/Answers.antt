-- `manifest::package::package_behind` meets its contract. Invariant: the whole is what the lines from here on give, the cluster is
-- that of the lines before with its unused places cleared, and it has room for a need of each line that may follow.
-- Measure: the lines that may follow. Assumes nothing.
use mathlib.Core.Path.{◌≡◌}
use native.Mathlib.Omega.{arith}
use Rattle.std.specs.Prelude.{Err}
use Rattle.std.proofs.lemmas.Grind.{common_steps}
use Rattle.manifest.specs.declared.package.PackageError.TheVariants.{IllFormed}
use Rattle.manifest.proofs.PackageLaws.{reading_begins, at-end, end-inside, no_room, need-fits, no-line-here, no-need-here, next-line}
use Rattle.manifest.proofs.package.package_behind.Goals as goal

pub loop-columns-init : goal.loop-columns-init
loop-columns-init c = search reading_begins

pub returns-then-lines-eq0 : goal.returns-then-lines-eq0
returns-then-lines-eq0 c = search no_room

pub returns-in_err-next : goal.returns-in_err-next
returns-in_err-next c =
    let given : c.from_residual.result ≡ Err IllFormed = grind (arith, common_steps) in
    search (no-line-here, c.in_err-next.ensures.ok_part)

pub returns-in_err-need : goal.returns-in_err-need
returns-in_err-need c =
    let given : c.from_residual-in_err-need.result ≡ Err IllFormed = grind (arith, common_steps) in
    search (no-need-here, c.in_ok-next.ensures.ok_part, c.in_err-need.ensures.ok_part)

pub with_need-cluster-requires : goal.with_need-cluster-requires
with_need-cluster-requires c = search need-fits

pub loop-columns-preserved : goal.loop-columns-preserved
loop-columns-preserved c = search (next-line, c.in_ok-next.ensures.ok_part, c.in_ok-need.ensures.ok_part)

pub package_with-requires : goal.package_with-requires
package_with-requires c = search end-inside

pub returns : goal.returns
returns c = search at-end

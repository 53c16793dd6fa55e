-- `manifest::package::package_behind` meets its contract. Invariant: the whole is what the lines from here on give, the cluster is
-- that of the lines before with its unused places cleared, and it has room for a need of each line that may follow.
-- Measure: the lines that may follow. Assumes nothing.
use Rattle.manifest.specs.Package.{package_behind}
use Rattle.package_heading.specs.Found.{plain_heading}
use Rattle.manifest.specs.Answer.{package_answer}
use Rattle.manifest.proofs.PackageLaws.{Reading}
use Rattle.manifest.proofs.package.package_behind.Given as goal

abbrev pub invariant-loop-columns : goal.invariant-loop-columns
invariant-loop-columns l =
    Reading l.s l.columns (plain_heading l.heading) (package_answer (package_behind l.columns l.s l.initial.line.at (plain_heading l.heading))) l.lines l.line.at l.cluster

abbrev pub decreases-loop-columns : goal.decreases-loop-columns
decreases-loop-columns l = l.lines

-- `manifest::package::package_with` meets its contract: the payload fits the area or it does not. Assumes nothing.
use Rattle.manifest.proofs.PackageLaws.{payload-fits, payload-differs}
use Rattle.manifest.proofs.package.package_with.Goals as goal

pub returns-then-s-start : goal.returns-then-s-start
returns-then-s-start c = λ plain e. let a = c.action_of.ensures plain e in search payload-fits

pub returns-else-s-start : goal.returns-else-s-start
returns-else-s-start c = λ plain e. search payload-differs

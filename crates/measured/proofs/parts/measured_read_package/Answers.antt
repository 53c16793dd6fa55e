-- `measured::parts::measured_read_package` meets its contract: the part number in what the reader gives, or the cleared one. Assumes nothing.
use mathlib.Core.Path.{sym, ap}
use Rattle.manifest.specs.declared.package.PackageRead.{PackageRead}
use Rattle.manifest.proofs.Payload.{read-is, refused-cleared}
use Rattle.measured.proofs.parts.measured_read_package.Goals as goal

pub returns-in-Ok : goal.returns-in-Ok
returns-in-Ok c = ap (λ (r : PackageRead). r.action.cluster.part) (read-is _ _ c.read_package.ensures.exact _ c.in-Ok.is)

pub returns-in-Err : goal.returns-in-Err
returns-in-Err c = ap (λ (r : PackageRead). r.action.cluster.part) (sym (refused-cleared _ _ c.read_package.ensures.exact _ c.in-Err.is))

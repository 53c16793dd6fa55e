-- `process_package::checks::is_touched` meets its contract: the column of part numbers is searched. Assumes nothing.
use Rattle.process_package.proofs.SessionRefusal.{touched-among}
use Rattle.process_package.proofs.checks.is_touched.Goals as goal

pub returns : goal.returns
returns c = search touched-among

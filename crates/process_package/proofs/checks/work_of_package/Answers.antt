-- `process_package::checks::work_of_package` meets its contract: the values that were read, and the sums at their start. Assumes nothing.
use Rattle.process_package.proofs.checks.work_of_package.Goals as goal

pub returns : goal.returns
returns c = rw c.start.ensures

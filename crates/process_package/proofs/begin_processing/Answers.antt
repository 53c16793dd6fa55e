-- `process_package::begin_processing` meets its contract: the parts that its calls give. Assumes nothing.
use Rattle.process_package.proofs.ProcessLaws.{give-begun}
use Rattle.process_package.proofs.begin_processing.Goals as goal

pub returns : goal.returns
returns c = search give-begun

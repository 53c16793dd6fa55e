-- `transfer_exit::accept_package` meets its contract: the parts that its calls give. Assumes nothing.
use Rattle.state.proofs.Ways.{ways}
use Rattle.transfer_exit.proofs.accept_package.Goals as goal

pub returns : goal.returns
returns c = search ways

-- `delete_transfer::take_out` meets its contract: other transfers and another store. Assumes nothing.
use Rattle.state.proofs.Ways.{ways}
use Rattle.delete_transfer.proofs.take_out.Goals as goal

pub returns : goal.returns
returns c = search ways

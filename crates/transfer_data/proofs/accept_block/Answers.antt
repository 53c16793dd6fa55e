-- `transfer_data::accept_block` meets its contract: the block behind the area's start and the bytes received. Assumes nothing.
use Rattle.state.proofs.Ways.{ways}
use Rattle.transfer_data.specs.Data.{block_received_at}
use Rattle.transfer_data.proofs.DataLaws.{block_at}
use Rattle.transfer_data.proofs.accept_block.Goals as goal

pub returns : goal.returns
unfolding block_received_at
returns c = search (ways, block_at)

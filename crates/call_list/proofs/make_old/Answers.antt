-- `call_list::make_old` meets its contract: what the old call gives, its answer in words. Assumes nothing.
use Rattle.call_list.proofs.RowCall.{made-old}
use Rattle.call_list.proofs.make_old.Goals as goal

pub returns : goal.returns
returns c = search made-old

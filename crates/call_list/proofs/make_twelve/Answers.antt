-- `call_list::make_twelve` meets its contract: what the call gives, its answer in words. Assumes nothing.
use Rattle.call_list.proofs.RowCall.{made-twelve}
use Rattle.call_list.proofs.make_twelve.Goals as goal

pub returns : goal.returns
returns c = search made-twelve

-- `actions::place::insert` meets its contract. Assumes nothing.
use Rattle.actions.specs.Exact.{insert}
use Rattle.actions.proofs.place.insert.Goals as goal

pub returns : goal.returns
unfolding insert
returns c = cc

-- `clusters::needs::meets` meets its contract. Assumes nothing.
use Rattle.clusters.proofs.needs.meets.Goals as goal

pub returns : goal.returns
returns c = c.meets_in.ensures _ c.of.ensures

-- `start_waves::rounds::started_before` meets its contract. Assumes nothing.
use Rattle.base.proofs.Ladder.{ladder}
use Rattle.start_waves.proofs.rounds.started_before.Goals as goal

pub returns-then-place-ge-CLUSTERS_MOST : goal.returns-then-place-ge-CLUSTERS_MOST
returns-then-place-ge-CLUSTERS_MOST c = search ladder

pub returns : goal.returns
returns c = search ladder

-- `staging::running` meets its contract: the staged table where it runs, else the beginning one. Assumes nothing.
use Rattle.base.proofs.Ladder.{told-ladder}
use Rattle.staging.specs.Staged.{running_table}
use Rattle.staging.proofs.running.Goals as goal

pub returns-then-runs_staged : goal.returns-then-runs_staged
unfolding running_table
returns-then-runs_staged c = search told-ladder

pub returns-else-runs_staged : goal.returns-else-runs_staged
unfolding running_table
returns-else-runs_staged c = search told-ladder

-- `state::work::is_cleared_work` meets its contract: the same tests, two of them by calls. Assumes nothing.
use Rattle.state.specs.View.{is_cleared_work}
use Rattle.state.proofs.Tests.{same-install}
use Rattle.state.proofs.work.is_cleared_work.Goals as goal

pub returns : goal.returns
unfolding is_cleared_work
returns c = rw (← same-install c.args.w.action.change, ← c.eq.ensures, ← c.is_no_version.ensures)

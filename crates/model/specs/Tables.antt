-- The staged and the running table.
use Rattle.clusters.specs.Table.{Table}
use Rattle.actions.specs.Action.{apply_all}
use Rattle.model.specs.State.{Phase, idle, ready, processing, activating, verifying, activated, rolling_back, rolled_back, cleaning_up, ready_cleans_up, activated_cleans_up, rolled_back_cleans_up, Session, State, actions}

-- "The staged table is the session's beginning table with the listed actions applied"
unfoldable pub staged : Session → Table
staged session = apply_all session.beginning (actions session.listed)

-- "The running table is the staged one in Verifying, Activated, RollingBack and CleaningUp after Finish from Activated";
-- "In all other states it is the beginning table."
unfoldable pub running_in : Phase → Session → Table
running_in idle session = session.beginning
running_in ready session = session.beginning
running_in processing session = session.beginning
running_in activating session = session.beginning
running_in verifying session = staged session
running_in activated session = staged session
running_in (rolling_back origin) session = staged session
running_in rolled_back session = session.beginning
running_in (cleaning_up ready_cleans_up) session = session.beginning
running_in (cleaning_up activated_cleans_up) session = staged session
running_in (cleaning_up rolled_back_cleans_up) session = session.beginning

-- the running table of a state
unfoldable pub running : State → Table
running s = running_in s.phase s.session

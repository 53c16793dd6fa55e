-- The staged and the running table as structs. proofs/StagedViews.antt has what they stand for.
use Rattle.std.specs.Prelude.{Bool, true, false, cond, List, [], ◌∷◌, take}
use Rattle.clusters.specs.declared.table.Table.{Table}
use Rattle.actions.specs.Exact.{apply}
use Rattle.state.specs.declared.session.Entry.{Entry}
use Rattle.state.specs.declared.session.Session.{Session}
use Rattle.state.specs.declared.phase.Phase.{Phase}
use Rattle.state.specs.declared.phase.Phase.TheVariants.{Idle, Ready, Processing, Activating, Verifying, Activated, RollingBack, RolledBack, CleaningUp}
use Rattle.state.specs.declared.phase.CleanUpOrigin.{CleanUpOrigin}
use Rattle.state.specs.declared.phase.CleanUpOrigin.TheVariants as origins

-- a table with the actions of entries applied, in order
unfoldable pub staged_from : Table → List Entry → Table
staged_from table [] = table
staged_from table (e ∷ entries) = staged_from (apply e.action table) entries

-- "the session's beginning table with the listed actions applied"
unfoldable pub staged_table : Session → Table
staged_table session = staged_from session.beginning (take session.count session.entries)

abbrev pub cleaning_up_runs_staged : CleanUpOrigin → Bool
cleaning_up_runs_staged origins.Ready = false
cleaning_up_runs_staged origins.Activated = true
cleaning_up_runs_staged origins.RolledBack = false

-- "the staged one in Verifying, Activated, RollingBack and CleaningUp after Finish from Activated"
abbrev pub runs_staged : Phase → Bool
runs_staged Idle = false
runs_staged Ready = false
runs_staged Processing = false
runs_staged Activating = false
runs_staged Verifying = true
runs_staged Activated = true
runs_staged (RollingBack origin) = true
runs_staged RolledBack = false
runs_staged (CleaningUp origin) = cleaning_up_runs_staged origin

-- "In all other states it is the beginning table."
unfoldable pub running_table : Phase → Session → Table
running_table phase session = cond (runs_staged phase) (staged_table session) session.beginning

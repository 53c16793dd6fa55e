-- `actions::refusals::table_full` meets its contract: a case for each change. Assumes nothing.
use mathlib.Core.Path.{refl}
use Rattle.actions.specs.declared.action.Change.TheVariants.{Install, Update, Remove}
use Rattle.actions.specs.Refusals.{table_full}
use Rattle.actions.proofs.StagedLaws.{by-change, by-either}
use Rattle.actions.proofs.refusals.table_full.Goals as goal

pub returns-in-Install : goal.returns-in-Install
unfolding table_full
returns-in-Install c d = by-change (table_full _) _ Install d _ c.in-Install.is refl

pub returns-in-Update : goal.returns-in-Update
unfolding table_full
returns-in-Update c d = by-either (table_full _) _ Update Remove d _ c.in-Update.is refl refl

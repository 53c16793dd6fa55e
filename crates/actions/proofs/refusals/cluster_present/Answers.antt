-- `actions::refusals::cluster_present` meets its contract: a case for each change. Assumes nothing.
use mathlib.Core.Path.{refl, ◌∙◌}
use Rattle.actions.specs.declared.action.Change.TheVariants.{Install, Update, Remove}
use Rattle.actions.specs.Refusals.{cluster_present}
use Rattle.actions.proofs.StagedLaws.{by-change, by-either, is-there}
use Rattle.actions.proofs.refusals.cluster_present.Goals as goal

pub returns-in-Install : goal.returns-in-Install
unfolding cluster_present
returns-in-Install c found d e = by-change (cluster_present found) _ Install d _ c.in-Install.is (c.is_some.ensures ∙ is-there found _ e)

pub returns-in-Update : goal.returns-in-Update
unfolding cluster_present
returns-in-Update c found d e = by-either (cluster_present found) _ Update Remove d _ c.in-Update.is refl refl

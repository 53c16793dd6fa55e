-- `actions::refusals::cluster_stays` meets its contract: a case for each change. Assumes nothing.
use mathlib.Core.Path.{sym, ◌∙◌}
use Rattle.actions.specs.declared.action.Change.TheVariants.{Remove}
use Rattle.actions.specs.Refusals.{cluster_stays}
use Rattle.actions.proofs.StagedLaws.{by-change, stays-nothing, stays-remove, stays-other}
use Rattle.actions.proofs.refusals.cluster_stays.Goals as goal

pub returns-in-Remove-Some : goal.returns-in-Remove-Some
returns-in-Remove-Some c found d e =
    by-change (cluster_stays found) _ Remove d _ c.in-Remove-Some.is-0 (stays-remove found d.part _ (sym c.in-Remove-Some.is-1 ∙ e))

pub returns-in_default : goal.returns-in_default
returns-in_default c found d e = stays-nothing found d c.args.change (sym c.in_default.is-1 ∙ e)

pub returns-in_default-2 : goal.returns-in_default-2
returns-in_default-2 c found d e = stays-other found d c.args.change c.in_default.not-Remove-0

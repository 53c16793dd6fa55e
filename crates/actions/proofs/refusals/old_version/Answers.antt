-- `actions::refusals::old_version` meets its contract: a case for each change. Assumes nothing.
use mathlib.Core.Path.{sym, ap, ◌∙◌}
use mathlib.Core.Bool.{not}
use Rattle.actions.specs.declared.action.Change.TheVariants.{Update}
use Rattle.actions.specs.Refusals.{old_version}
use Rattle.actions.proofs.StagedLaws.{by-change, old-nothing, old-update, old-other}
use Rattle.actions.proofs.refusals.old_version.Goals as goal

pub returns-in-Update-Some : goal.returns-in-Update-Some
returns-in-Update-Some c found d e v =
    by-change (old_version found) _ Update d _ c.in-Update-Some.is-0 (ap not c.above.ensures ∙ old-update found d _ _ v (sym c.in-Update-Some.is-1 ∙ e))

pub returns-in_default : goal.returns-in_default
returns-in_default c found d e v = old-nothing found d c.args.change (sym c.in_default.is-1 ∙ e)

pub returns-in_default-2 : goal.returns-in_default-2
returns-in_default-2 c found d e v = old-other found d c.args.change c.in_default.not-Update-0

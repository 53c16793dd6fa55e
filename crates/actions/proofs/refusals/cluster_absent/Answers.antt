-- `actions::refusals::cluster_absent` meets its contract: a case for each change. Assumes nothing.
use mathlib.Core.Path.{◌≡◌, refl}
use mathlib.Core.Bool.{not}
use Rattle.actions.specs.declared.action.Change.TheVariants.{Install, Update, Remove}
use Rattle.actions.specs.Refusals.{is_staged, cluster_absent}
use Rattle.actions.proofs.StagedLaws.{by-change, by-either, is-not-there}
use Rattle.actions.proofs.refusals.cluster_absent.Goals as goal

pub returns-in-Install : goal.returns-in-Install
unfolding cluster_absent
returns-in-Install c found d e = by-change (cluster_absent found) _ Install d _ c.in-Install.is refl

pub returns-in-Update : goal.returns-in-Update
unfolding cluster_absent
returns-in-Update c found d e =
    let n : c.is_none.result ≡ not (is_staged found) = is-not-there found _ _ e c.is_none.ensures in
    by-either (cluster_absent found) _ Update Remove d _ c.in-Update.is n n

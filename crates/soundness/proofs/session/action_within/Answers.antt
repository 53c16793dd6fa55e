-- `soundness::session::action_within` meets its contract: a case for each arm. Assumes nothing.
use mathlib.Core.Logic.{inl, inr}
use mathlib.Core.Path.{◌≡◌, sym, ap, ◌∙◌}
use Rattle.clusters.specs.View.{view_cluster}
use Rattle.actions.specs.declared.action.Change.{Change}
use Rattle.actions.specs.declared.action.Action.{Action}
use Rattle.actions.specs.Action.{action_within}
use Rattle.actions.specs.View.{action_of}
use Rattle.soundness.proofs.session.action_within.Goals as goal

by-change : (a : Action) (change : Change) → a.change ≡ change
    → action_within (action_of change (view_cluster a.cluster)) ≡ action_within (action_of a.change (view_cluster a.cluster))
by-change a change e = ap (λ (k : Change). action_within (action_of k (view_cluster a.cluster))) (sym e)

pub returns-in-Install : goal.returns-in-Install
unfolding action_within
returns-in-Install c =
    elim c.in-Install.is [ inl e ↦ c.cluster_within.ensures ∙ by-change c.args.action _ e | inr e ↦ c.cluster_within.ensures ∙ by-change c.args.action _ e ]

pub returns-in-Remove : goal.returns-in-Remove
unfolding action_within
returns-in-Remove c = c.part_within.ensures ∙ by-change c.args.action _ c.in-Remove.is
